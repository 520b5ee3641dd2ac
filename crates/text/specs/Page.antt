-- A page that text is written on: what the writing functions ask and promise.
use Rattle.std.specs.Prelude.{ℕ, ◌+◌, ◌≤◌, ◌≡◌, List, ◌++◌, length, take, drop}
use Rattle.text.specs.declared.Page.{Page}

-- the page with s on it from index `at` on
unfoldable pub overlaid : List ℕ → ℕ → List ℕ → List ℕ
overlaid page at s = take at page ++ (s ++ drop (at + length s) page)

-- there is room for s
pub record Fits (page : List ℕ) (at : ℕ) (s : List ℕ) : Type 0 where
  pub room : at + length s ≤ length page

-- s was written from index `at` on, up to `end`
pub record Wrote (page : List ℕ) (at : ℕ) (s : List ℕ) (page' : List ℕ) (end : ℕ) : Type 0 where
  pub text : page' ≡ overlaid page at s
  pub till : end ≡ at + length s
  pub inside : end ≤ length page

-- the same of a lent page and the place where it stands
abbrev pub HasRoom : Page → List ℕ → Type 0
HasRoom p s = Fits p.bytes.now p.at s

abbrev pub Writes : Page → List ℕ → Page → Type 0
Writes p s q = Wrote p.bytes.now p.at s q.bytes.now q.at

-- the page is still the one that was lent
abbrev pub SamePage : Page → Page → Type 0
SamePage p q = q.bytes.ghost_name ≡ p.bytes.ghost_name
