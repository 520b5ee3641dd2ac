-- What is promised of all small lists (specs/SmallLists): list by list, over what the calls give.
use Prim.Native.Nat.{ℕ, zero, suc, ◌-◌, ◌≤◌, ◌<◌}
use mathlib.Core.Path.{◌≡◌, refl, sym, ap, ◌∙◌, subst}
use mathlib.Core.Logic.{◌⊎◌, inl, inr}
use mathlib.Core.List.{List, [], ◌∷◌, map, Memᴰ}
use native.Mathlib.Nat.{le_of_suc-le-suc}
use native.Mathlib.Omega.{arith}
use lib.ListN.{length, get_or, replicate, length-map, length-replicate}
use lib.Seq.{ext_get_or}
use Rattle.order.specs.Lists.{All, Pairwise, up_to, down_to}
use Rattle.order.proofs.Laws.{lt_or_le}
use Rattle.outcomes.specs.Outcome.{Long}
use Rattle.runs.specs.Runs.{Runs, runs, map_of}
use Rattle.folds.proofs.Maximal.{maximal_map}
use Rattle.permutations.specs.Values.{values_of, value_at, Before}
use Rattle.permutations.specs.Next.{max_places, ascent_of, successor, next_runs}
use Rattle.permutations.specs.Every.{OfFewestRuns, IsNext, identity, lists_from, factorial, list_at, Has, AllInOrder}
use Rattle.permutations.specs.SmallLists.{SmallLists}
use Rattle.permutations.specs.Parts.{Permutes}
use Rattle.permutations.proofs.Ordering.{before_trans, before_itself, before_differs, before_total}
use Rattle.permutations.proofs.Successors.{Step}
use Rattle.permutations.proofs.Chain.{mem_all, last_mem, on_at, on_last}
use Rattle.permutations.proofs.Members.{fewest_only, values_length, values_at, images_length, images_at, images_permute, mem_at, at_mem, list_values, list_fewest}
use Rattle.permutations.proofs.Permutations.{later, all, all_on, all_order, all_number, all_permute, all_mem}
use Rattle.permutations.proofs.Outcomes.{room_alone}
use Rattle.permutations.proofs.OneCall.{list_of, is_next, next_values, not_last, none_above, call_given, call_ended, call_next, call_last, call_same, call_written}
use Rattle.permutations.proofs.Calls.{identity_list, all_calls, by_contract}

-- properties of the elements of a list that is mapped
all_in : {A B : Type 0} (P : B → Type 0) (f : A → B) (L : List A) → ((l : A) → Memᴰ l L → P (f l)) → All P (map f L)
all_in P f [] h = tt
all_in P f (l ∷ L) h = (h l (Memᴰ.head refl), all_in P f L (λ k m. h k (Memᴰ.tail m)))

pairs_in : {A B : Type 0} (R : A → A → Type 0) (S : B → B → Type 0) (f : A → B) (L : List A)
    → ((l k : A) → Memᴰ l L → Memᴰ k L → R l k → S (f l) (f k)) → Pairwise R L → Pairwise S (map f L)
pairs_in R S f [] h p = tt
pairs_in R S f (l ∷ L) h p =
    (go L (λ k m. h l k (Memᴰ.head refl) (Memᴰ.tail m)) p.0, pairs_in R S f L (λ j k m n. h j k (Memᴰ.tail m) (Memᴰ.tail n)) p.1)
  where
    go : (K : List _) → ((k : _) → Memᴰ k K → R l k → S (f l) (f k)) → All (R l) K → All (S (f l)) (map f K)
    go [] g q = tt
    go (k ∷ K) g q = (g k (Memᴰ.head refl) q.0, go K (λ j m. g j (Memᴰ.tail m)) q.1)

pair_at : {A : Type 0} (R : A → A → Type 0) (d : A) (L : List A) → Pairwise R L → (x y : ℕ) → x < y → y < length L
    → R (get_or L x d) (get_or L y d)
pair_at R d [] p x y h b = absurd (omega arith)
pair_at R d (l ∷ L) p x zero h b = absurd (omega arith)
pair_at R d (l ∷ L) p zero (suc y) h b = mem_all (R l) L p.0 (get_or L y d) (mem_at d L y (le_of_suc-le-suc b))
pair_at R d (l ∷ L) p (suc x) (suc y) h b = pair_at R d L p.1 x y (le_of_suc-le-suc h) (le_of_suc-le-suc b)

entry_in : {A B : Type 0} (f : A → B) (L : List A) (x : ℕ) (d : B) (e : A) → x < length L → get_or (map f L) x d ≡ f (get_or L x e)
entry_in f [] x d e h = absurd (omega arith)
entry_in f (l ∷ L) zero d e h = refl
entry_in f (l ∷ L) (suc x) d e h = entry_in f L x d e (le_of_suc-le-suc h)

module _ (n : ℕ) (some : 0 < n) where
  abbrev lists : List Runs
  lists = map (list_of n) (all n)

  size : length lists ≡ factorial n
  size = length-map (all n) (list_of n) ∙ all_number n

  own_values : (l : List ℕ) → Memᴰ l (all n) → values_of n (list_of n l) ≡ l
  own_values l m = list_values n l some (all_permute n l m)

  in_order : Pairwise (λ r q. Before (values_of n r) (values_of n q)) lists
  in_order = pairs_in Before (λ r q. Before (values_of n r) (values_of n q)) (list_of n) (all n)
      (λ l k m j b. rw (own_values l m, own_values k j) b) (all_order n)

  at_index : (x : ℕ) → x < length (all n) → list_at lists x ≡ list_of n (get_or (all n) x [])
  at_index x h = entry_in (list_of n) (all n) x (runs [] []) [] h

  -- a permutation is that of one list, and of no other
  has_values : (r : Runs) (f : ℕ → ℕ) → Has n r f → values_of n r ≡ map f (up_to n)
  has_values r f h = ext_get_or 0 (values_of n r) (map f (up_to n)) (values_length n r ∙ sym (images_length n f))
      (λ p b. let c : p < n = omega (arith, values_length n r) in values_at n r p c ∙ h p c ∙ sym (images_at n f p c))

  alone : (x y : ℕ) → x < length lists → y < length lists → values_of n (list_at lists x) ≡ values_of n (list_at lists y) → x ≡ y
  alone x y h g e = go (lt_or_le x y) (lt_or_le y x)
    where
      differ : (v w : ℕ) → v < w → w < length lists → values_of n (list_at lists v) ≡ values_of n (list_at lists w) → ⊥
      differ v w b k = before_differs (values_of n (list_at lists v)) (values_of n (list_at lists w))
          (pair_at (λ r q. Before (values_of n r) (values_of n q)) (runs [] []) lists in_order v w b k)

      go : (x < y) ⊎ (y ≤ x) → (y < x) ⊎ (x ≤ y) → x ≡ y
      go (inl b) c = absurd (differ x y b g e)
      go (inr b) (inl c) = absurd (differ y x c h (sym e))
      go (inr b) (inr c) = omega arith

  each_once : (f : ℕ → ℕ) → ((p : ℕ) → p < n → f p < n) → ((p q : ℕ) → p < n → q < n → f p ≡ f q → p ≡ q)
      → (x : ℕ) × (x < length lists) × Has n (list_at lists x) f
      × ((y : ℕ) → y < length lists → Has n (list_at lists y) f → y ≡ x)
  each_once f below one =
      let l : List ℕ = map f (up_to n) in
      let x = at_mem [] l (all n) (all_mem n l (images_permute n f below one)) in
      let e : list_at lists x.0 ≡ list_of n l = at_index x.0 x.1 ∙ ap (list_of n) x.2 in
      let b : x.0 < length lists = omega (arith, x.1, length-map (all n) (list_of n)) in
      let has : Has n (list_at lists x.0) f =
      λ p h. ap (λ (r : Runs). map_of n r p) e ∙ maximal_map n (value_at l) some p h ∙ images_at n f p h in
      (x.0, b, has, λ y g t. alone y x.0 g b (has_values (list_at lists y) f t ∙ sym (has_values (list_at lists x.0) f has)))

  last_one : list_at lists (factorial n - 1) ≡ list_of n (down_to n)
  last_one =
      let e : factorial n - 1 ≡ length (later n) = omega (arith, all_number n) in
      at_index (factorial n - 1) (omega arith)
      ∙ ap (λ (x : ℕ). list_of n (get_or (all n) x [])) e ∙ ap (list_of n) (on_last (up_to n) (later n) (down_to n) (all_on n))

  down_permutes : Permutes n (down_to n)
  down_permutes = all_permute n (down_to n) (last_mem (up_to n) (later n) (down_to n) (all_on n))

  -- from each to the one after it
  on_to : (l k : List ℕ) → Permutes n l → Step l k → IsNext n (list_of n l) (list_of n k)
  unfolding next_runs
  on_to l k c s =
      let e = list_values n l some c in
      let h : 0 < ascent_of (values_of n (list_of n l)) = rw e s.rises in
      subst (IsNext n (list_of n l)) (ap (λ (v : List ℕ). list_of n (successor v)) e ∙ ap (list_of n) s.next)
      (is_next n (list_of n l) (list_fewest n l some c).legal h)

  each_next : (x : ℕ) → suc x < length lists → IsNext n (list_at lists x) (list_at lists (suc x))
  each_next x h =
      let g : suc x < length (all n) = omega (arith, length-map (all n) (list_of n)) in
      rw (at_index x (omega arith), at_index (suc x) g)
      (on_to (get_or (all n) x []) (get_or (all n) (suc x) [])
      (all_permute n (get_or (all n) x []) (mem_at [] (all n) x (omega arith)))
      (on_at (up_to n) (later n) (down_to n) (all_on n) x (le_of_suc-le-suc g)))

  all_in_order : AllInOrder n lists
  all_in_order = record {
    number = size;
    order = in_order;
    once = each_once;
    first = identity_list n some;
    last = ap (values_of n) last_one ∙ list_values n (down_to n) some down_permutes;
    steps = each_next;
    fewest_runs = all_in (OfFewestRuns n) (list_of n) (all n) (λ l m. list_fewest n l some (all_permute n l m));
  }

every_list : (n : ℕ) (a b : List ℕ) (m : ℕ) → 0 < n → n ≤ max_places → Long n (a ∷ b ∷ []) → factorial n ≤ suc m
    → AllInOrder n (lists_from n a b m identity)
every_list n a b m some few long h = rw (all_calls n a b some few long m h) (all_in_order n some)

-- tables with an entry for each place
lent : ℕ → List ℕ
lent n = replicate n 0

lent_long : (n : ℕ) → Long n (lent n ∷ lent n ∷ [])
unfolding lent
lent_long n = let h : n ≤ length (replicate {A = ℕ} n 0) = omega (arith, length-replicate {A = ℕ} n 0) in (h, (h, tt))

pub small_lists : SmallLists
small_lists = record {
  irreflexive = before_itself;
  transitive = before_trans;
  total = before_total;
  given = λ n r a b c few. call_given n r c few a b;
  ended = λ n r a b c few. call_ended n r c few a b;
  next = call_next;
  last = call_last;
  values = λ n r c d. next_values n r c (not_last n r c d);
  least = λ n r c d. is_next n r c (not_last n r c d);
  greatest = λ n r s c d e. none_above n r c e s d;
  only = fewest_only;
  same = call_same;
  room = λ n r a b c d. room_alone n r a b c d;
  written = call_written;
  every = every_list;
  calls = by_contract;
  every_call = λ n some few cs c h.
      rw (by_contract n identity (lent n) (lent n) (lent_long n) cs c)
      (every_list n (lent n) (lent n) (length cs) some few (lent_long n) h);
}
