-- The lengths of a list, and what right lengths tell of any tables: the starts rise and lie below n, and with n they tell the
-- lengths.
use Rattle.std.proofs.Common.{◌≡◌, ℕ, zero, suc, ◌+◌, ◌-◌, ◌<◌, ◌≤◌, false, List, [], ◌∷◌, length, get_or, sym, refl, ap, ◌∙◌, true≢false, suc-le-suc, le_of_suc-le-suc, arith, le-ltb}
use lib.ListN.{get_or-eq_default}
use Rattle.order.specs.Lists.{Strict}
use Rattle.order.proofs.Laws.{get_d_default, pairwise_steps}
use Rattle.outcomes.specs.Search.{any_below}
use Rattle.outcomes.proofs.Searches.{any_false, any_none}
use Rattle.runs.specs.Parts.{Lasts}
use Rattle.tables.specs.Tables.{Tables, size_of, lengths_of, wrong_length, all_lengths}
use Rattle.tables.specs.Parts.{Measured}
use Rattle.tables.proofs.Passing.{matching, matching_is}

-- a list's lengths: one for each start, the end minus the start
pub lengths_long : (n : ℕ) (l : List ℕ) → length (lengths_of n l) ≡ length l
lengths_long n [] = refl
lengths_long n (s ∷ ss) = ap suc (lengths_long n ss)

pub lengths_at : (n : ℕ) (l : List ℕ) (x : ℕ) → x < length l → get_or (lengths_of n l) x 0 ≡ get_or l (suc x) n - get_or l x 0
lengths_at n [] x h = absurd (omega arith)
lengths_at n (s ∷ ss) zero h = refl
lengths_at n (s ∷ ss) (suc x) h = lengths_at n ss x (le_of_suc-le-suc h)

-- they are right where the starts rise and lie below n
pub lengths_right : (n : ℕ) (l : List ℕ) → Lasts n l → (x : ℕ) → x < length l → wrong_length n l (lengths_of n l) x ≡ false
lengths_right n l up x h =
    let e = lengths_at n l x h in
    matching _ _ _ (omega (arith, up x h)) (omega (arith, up x h))

-- a search for a wrong one that came to the end
pub none_wrong : (n : ℕ) (t : Tables) (w : ℕ) → w ≡ (all_lengths n t).place → size_of t.links ≤ w → Measured n t
none_wrong n t w q l = le-ltb _ _ (rw q at l)

-- right lengths, one by one and all together
module _ (n : ℕ) (l m : List ℕ) where
  pub all_right : ((x : ℕ) → x < length l → wrong_length n l m x ≡ false) → any_below (wrong_length n l m) (length l) ≡ false
  all_right f = any_none (wrong_length n l m) (length l) (λ x h e. true≢false (sym e ∙ f x h))

  module _ (right : any_below (wrong_length n l m) (length l) ≡ false) where
    pub right_at : (x : ℕ) → x < length l → (0 < get_or m x 0) × (get_or l x 0 + get_or m x 0 ≡ get_or l (suc x) n)
    right_at x h = matching_is _ _ _ (any_false (wrong_length n l m) (length l) x right h)

    -- each start lies below the end
    pub right_ends : Lasts n l
    right_ends x h = omega (arith, right_at x h)

    -- so the starts rise
    pub right_rise : Strict l
    right_rise =
        pairwise_steps ◌<◌ (λ a b c f g. omega arith) l
        (λ x h. rw (get_d_default l (suc x) 0 n h) (right_ends x (omega arith)))

    -- and lie below n
    pub right_below : (x : ℕ) → x < length l → get_or l x 0 < n
    right_below x h = go (length l - suc x) x h refl
      where
        go : (k x : ℕ) → x < length l → length l - suc x ≡ k → get_or l x 0 < n
        go zero x h e =
            let z : get_or l (suc x) n ≡ n = get_or-eq_default l n (omega arith) in
            omega (arith, right_ends x h)
        go (suc k) x h e =
            let f = go k (suc x) (omega arith) (omega arith) in
            omega (arith, right_ends x h, get_d_default l (suc x) n 0 (omega arith))

    -- so there is no other fourth column to these starts
    pub right_told : length m ≡ length l → m ≡ lengths_of n l
    right_told e = go l m e (λ x h. (right_at x h).1)
      where
        go : (l m : List ℕ) → length m ≡ length l → ((x : ℕ) → x < length l → get_or l x 0 + get_or m x 0 ≡ get_or l (suc x) n)
            → m ≡ lengths_of n l
        go [] [] e f = refl
        go [] (d ∷ ds) e f = absurd (omega arith)
        go (s ∷ ss) [] e f = absurd (omega arith)
        go (s ∷ ss) (d ∷ ds) e f =
            let z : d ≡ get_or ss 0 n - s = omega (arith, f 0 (omega arith)) in
            let t = go ss ds (omega arith) (λ x h. f (suc x) (suc-le-suc h)) in
            λ k. z k ∷ t k
