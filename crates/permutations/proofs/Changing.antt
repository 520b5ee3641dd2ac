-- Each value after the change, and all of them as a loop writes them.
use Prim.Native.Nat.{ℕ, suc, ◌+◌, ◌-◌, ◌≤◌, ◌<◌}
use mathlib.Core.Path.{◌≡◌, sym, ap, ◌∙◌}
use mathlib.Core.Logic.{◌⊎◌, inl, inr, ◌≢◌}
use mathlib.Core.List.{List, [], ◌∷◌, ◌++◌, reverse, reverse-cons}
use native.Mathlib.Omega.{arith}
use lib.ListN.{length, take, drop, set, length-append, length-drop, length-set, length-reverse, get_or-append}
use lib.Seq.{length-take-le, get_or-take, get_or-drop, get_or_at, get_or-append-add, get_or-set_same, get_or-set_other}
use Rattle.order.proofs.Laws.{lt_or_le}
use Rattle.order.proofs.Filling.{Filling, filling_none, filling_next, filling_front}
use Rattle.permutations.specs.Values.{value_at}
use Rattle.permutations.specs.Next.{changed}
use Rattle.permutations.specs.Parts.{Change}

reverse_at : (l : List ℕ) (k : ℕ) → k < length l → value_at (reverse l) k ≡ value_at l (length l - 1 - k)
reverse_at [] k h = absurd (omega arith)
reverse_at (x ∷ l) k h = ap (λ (t : List ℕ). value_at t k) (reverse-cons x l) ∙ go (lt_or_le k (length l)) (reverse_at l k)
  where
    go : (k < length l) ⊎ (length l ≤ k) → (k < length l → value_at (reverse l) k ≡ value_at l (length l - 1 - k))
        → value_at (reverse l ++ (x ∷ [])) k ≡ value_at (x ∷ l) (suc (length l) - 1 - k)
    go (inl b) f =
        let e : suc (length l) - 1 - k ≡ suc (length l - 1 - k) = omega arith in
        get_or-append (reverse l) (x ∷ []) 0 k (omega (arith, length-reverse l)) ∙ f b ∙ ap (value_at (x ∷ l)) (sym e)
    go (inr b) f =
        let e : suc (length l) - 1 - k ≡ 0 = omega arith in
        get_or_at (reverse l) x [] 0 k (omega (arith, length-reverse l)) ∙ ap (value_at (x ∷ l)) (sym e)

less : (n a b : ℕ) → n - a - 1 - b ≡ n - 1 - b - a
less n a b = omega arith

module _ (l : List ℕ) (ascent other : ℕ) (c : Change l ascent other) where
  -- the values before the place that is exchanged; and those from the ascent on, one of them exchanged
  abbrev kept : List ℕ
  kept = take (ascent - 1) l

  abbrev rest : List ℕ
  rest = set (drop ascent l) (other - ascent) (value_at l (ascent - 1))

  kept_length : length kept ≡ ascent - 1
  kept_length = length-take-le (ascent - 1) l (omega (arith, c.from, c.to))

  rest_length : length rest ≡ length l - ascent
  rest_length = length-set (drop ascent l) (other - ascent) (value_at l (ascent - 1)) ∙ length-drop ascent l

  pub changed_length : length (changed l ascent other) ≡ length l
  unfolding changed
  changed_length =
      length-append kept (value_at l other ∷ reverse rest)
      ∙ omega (arith, kept_length, rest_length, length-reverse rest, c.some, c.from, c.to)

  module _ (p : ℕ) where
    pub changed_kept : p + 1 < ascent → value_at (changed l ascent other) p ≡ value_at l p
    unfolding changed
    changed_kept h =
        get_or-append kept (value_at l other ∷ reverse rest) 0 p (omega (arith, kept_length))
        ∙ get_or-take (ascent - 1) l p 0 (omega arith)

    pub changed_before : p + 1 ≡ ascent → value_at (changed l ascent other) p ≡ value_at l other
    unfolding changed
    changed_before h = get_or_at kept (value_at l other) (reverse rest) 0 p (omega (arith, kept_length))

    -- from the ascent on, the entry that stands opposite
    turned : ascent ≤ p → p < length l → value_at (changed l ascent other) p ≡ value_at rest (length l - 1 - (p - ascent) - ascent)
    unfolding changed
    turned h b =
        let e : p ≡ length kept + suc (p - ascent) = omega (arith, kept_length, c.some) in
        ap (value_at (changed l ascent other)) e
        ∙ get_or-append-add kept (value_at l other ∷ reverse rest) (suc (p - ascent)) 0
        ∙ reverse_at rest (p - ascent) (omega (arith, rest_length))
        ∙ ap (value_at rest) (ap (λ (n : ℕ). n - 1 - (p - ascent)) rest_length ∙ less (length l) ascent (p - ascent))

    pub changed_other : ascent ≤ p → p < length l → length l - 1 - (p - ascent) ≡ other
        → value_at (changed l ascent other) p ≡ value_at l (ascent - 1)
    changed_other h b e =
        turned h b ∙ ap (λ (k : ℕ). value_at rest (k - ascent)) e
        ∙ get_or-set_same (drop ascent l) (other - ascent) (value_at l (ascent - 1)) 0 (omega (arith, length-drop ascent l, c.from, c.to))

    pub changed_turned : ascent ≤ p → p < length l → length l - 1 - (p - ascent) ≢ other
        → value_at (changed l ascent other) p ≡ value_at l (length l - 1 - (p - ascent))
    changed_turned h b n =
        let m = length l - 1 - (p - ascent) in
        let e : ascent + (m - ascent) ≡ m = omega arith in
        turned h b
        ∙ get_or-set_other (drop ascent l) (other - ascent) (m - ascent) (value_at l (ascent - 1)) 0 (λ z. n (omega (arith, c.from)))
        ∙ get_or-drop ascent l (m - ascent) 0
        ∙ ap (value_at l) e

  -- the loop that writes them
  module _ (after : List ℕ) where
    pub changing_none : length l ≤ length after → Filling (changed l ascent other) after after 0
    changing_none h = filling_none (changed l ascent other) after (omega (arith, changed_length))

    module _ (now : List ℕ) (p : ℕ) (f : Filling (changed l ascent other) after now p) where
      pub changing_next : p < length l → (v : ℕ) → v ≡ value_at (changed l ascent other) p
          → Filling (changed l ascent other) after (set now p v) (p + 1)
      changing_next h = filling_next (changed l ascent other) after now p f (omega (arith, changed_length))

      pub changing_all : length l ≤ p → take (length l) now ≡ changed l ascent other
      changing_all = filling_front (changed l ascent other) after now p f (length l) changed_length
