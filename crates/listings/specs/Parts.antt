-- What the parts of `list_file` ask and promise.
use Rattle.std.specs.Prelude.{ℕ, ◌≤◌, ◌≡◌, List, length, take, Result, Ok, Err}
use Rattle.runs.specs.Runs.{Runs, runs}
use Rattle.runs.specs.Legal.{Legal}
use Rattle.outcomes.specs.Outcome.{Long}
use Rattle.outcomes.specs.Refusal.{number_of, place_of}
use Rattle.tables.specs.Tables.{Tables, tables_of, size_of, all_columns, each_column}
use Rattle.outcomes.specs.declared.Refusal.{Refusal}
use Rattle.text.specs.Text.{refusal_text}
use Rattle.text.specs.declared.Page.{Page}
use Rattle.files.specs.declared.Header.{Header}
use Rattle.listings.specs.Listing.{table_text}

-- balancing makes at most twice as many intervals as there are runs, at any degree
abbrev pub max_tabled : ℕ
max_tabled = 2048

-- No line of an interval is longer: six numbers of 10 digits, with a byte after each, and a sign. Nor is a first line, of
-- four such numbers, and so no listing is longer than `max_text`.
abbrev pub max_row : ℕ
max_row = 67

abbrev pub max_head : ℕ
max_head = 44

abbrev pub max_text : ℕ
max_text = 137260

-- a page that has nothing on it yet, and room for any listing
abbrev pub IsFresh : Page → Type 0
IsFresh p = (p.at ≡ 0) × (max_text ≤ length p.bytes.now)

-- tables of a legal list that is short enough to be listed
pub record Listed (n : ℕ) (t : Tables) : Type 0 where
  pub legal : Legal n t.links.list
  pub held : t ≡ tables_of n t.links.list
  pub few : size_of t.links ≤ max_tabled

-- what an answer of balancing makes the text, with the first tables as it left them
unfoldable pub answer_text : Header → Result ℕ Refusal → Runs → List ℕ
answer_text h (Ok k) t = table_text h (runs (take k t.starts) (take k t.images))
answer_text h (Err r) t = refusal_text (number_of r) (place_of r)

-- the first k entries of tables are to be listed
pub record Tabled (n k : ℕ) (t : Tables) : Type 0 where
  pub long : Long k (all_columns t)
  pub listed : Listed n (each_column (take k) t)

-- and these are they, where balancing answered k intervals
abbrev pub Answered : ℕ → Result ℕ Refusal → Tables → Type 0
Answered n answer t = (k : ℕ) → answer ≡ Ok k → Tabled n k t
