-- Lines one after the other, and how long that of a refusal is at most.
use Prim.Native.Nat.{ℕ, suc, ◌+◌, ◌≤◌, ◌<◌}
use mathlib.Core.Path.{◌≡◌, refl, sym, ap, ◌∙◌}
use mathlib.Core.List.{List, [], ◌∷◌, ◌++◌, append-nil, append_assoc}
use native.Mathlib.Omega.{arith}
use native.Mathlib.Numerals.{add-one}
use lib.ListN.{length, length-append}
use Rattle.order.specs.Lists.{up_to}
use Rattle.order.proofs.Laws.{up_snoc}
use Rattle.text.specs.Text.{max_size, refusal_text, texts}
use Rattle.text.proofs.Digits.{decimal_length}

pub refusal_length : (number place : ℕ) → number < max_size → place < max_size → length (refusal_text number place) ≤ 30
refusal_length number place a b = simp length-append (omega (arith, decimal_length number a, decimal_length place b))

-- the texts of a list that grows at its end
texts_append : (f : ℕ → List ℕ) (a b : List ℕ) → texts f (a ++ b) ≡ texts f a ++ texts f b
texts_append f [] b = refl
texts_append f (x ∷ a) b = rw (texts_append f a b) (sym (append_assoc (f x) (texts f a) (texts f b)))

pub texts_suc : (f : ℕ → List ℕ) (x : ℕ) → texts f (up_to (suc x)) ≡ texts f (up_to x) ++ f x
texts_suc f x =
    let e : 0 + x ≡ x = omega arith in
    ap (texts f) (up_snoc 0 x) ∙ texts_append f (up_to x) ((0 + x) ∷ []) ∙ rw (e, append-nil)

pub texts_next : (f : ℕ → List ℕ) (x : ℕ) → texts f (up_to (x + 1)) ≡ texts f (up_to x) ++ f x
texts_next f x = rw add-one (texts_suc f x)
