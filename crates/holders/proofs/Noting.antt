-- The buckets, and the loops that note the last run of each.
use Prim.Native.Nat.{ℕ, ◌≤◌, ◌<◌}
use mathlib.Core.Path.{◌≡◌, sym, subst, ◌∙◌}
use mathlib.Core.List.{List}
use native.Mathlib.Nat.{mul-le-mul_right}
use native.Mathlib.Omega.{arith}
use lib.ListN.{length, get_or}
use Rattle.holders.specs.Buckets.{bucket_of, Scaled, Tops}
use Rattle.holders.specs.Parts.{Noted, Raised}

-- a later place lies in no earlier bucket
pub bucket_mono : (scale p q : ℕ) → p ≤ q → bucket_of scale p ≤ bucket_of scale q
bucket_mono scale p q h = omega (arith, mul-le-mul_right scale h)

-- the entries before b are raised
pub record Raising (l m : List ℕ) (most b : ℕ) : Type 0 where
  pub long : length m ≡ length l
  pub reach : (c d : ℕ) → c ≤ d → d < b → get_or l c 0 ≤ get_or m d 0
  pub passed : (c : ℕ) → c < b → get_or l c 0 ≤ most
  pub rest : (c : ℕ) → b ≤ c → get_or m c 0 ≡ get_or l c 0
  pub bounded : (k : ℕ) → 0 < k → ((c : ℕ) → get_or l c 0 < k) → (most < k) × ((c : ℕ) → get_or m c 0 < k)

-- the runs noted, and the entries raised
pub tops_noted : (n scale : ℕ) (starts l m : List ℕ) → 0 < length starts → length l ≡ length starts → length m ≡ length l
    → Scaled n (length starts) scale → Noted (length starts) scale starts l (length starts) → Raised l m
    → Tops n scale starts m
tops_noted n scale starts l m some d e s w r = record {
  scaled = subst (λ (k : ℕ). Scaled n k scale) (sym (e ∙ d)) s;
  reach = λ p y h i j. omega (
    arith,
    w.reach y i,
    r.reach (bucket_of scale (get_or starts y 0)) (bucket_of scale p) (bucket_mono scale _ p j) (omega (arith, s.inside p h)),
  );
  known = r.bounded (length starts) some w.known;
}
