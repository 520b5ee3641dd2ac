-- Demand 2: acceptance is `check`'s own theorem (runs/proofs/Sequences, Intervals), and the walks through a list's own tables and
-- through those of its balanced list are one theorem (Through), since both lists are legal and have one function. What holds
-- of counts, of distances, of lengths and of questions on any tables is theirs (Moves, Distances and Linked of walks, Lengths of
-- tables, Marks and Distances of bookmarks, Agreeing and Passing of questions, each in proofs/).
use Prim.Native.Nat.{ℕ, ◌≤◌, ◌<◌}
use mathlib.Core.Path.{refl, sym, ◌∙◌}
use native.Mathlib.Omega.{arith}
use Rattle.runs.specs.Runs.{Runs, count_of, map_of}
use Rattle.runs.specs.Legal.{Legal}
use Rattle.runs.specs.Check.{max_runs}
use Rattle.runs.proofs.Accepted.{accepted_legal}
use Rattle.runs.proofs.Sequences.{accepted_sequence, sequence_accepted}
use Rattle.runs.proofs.Intervals.{accepted_intervals, intervals_accepted}
use Rattle.folds.proofs.Splitting.{accepted_split, split_accepted, split_map}
use Rattle.tables.specs.Tables.{max_intervals}
use Rattle.order.proofs.Laws.{at_all}
use Rattle.tables.proofs.Lengths.{right_rise, right_below, right_told}
use Rattle.walks.proofs.Linked.{find_linked, move_linked, moves_linked, made_linked}
use Rattle.walks.proofs.Moves.{move_reads}
use Rattle.walks.proofs.Distances.{move_lies, moves_lie}
use Rattle.bookmarks.proofs.Marks.{marked_reads}
use Rattle.bookmarks.proofs.Distances.{distance_unread, distance_forgotten, marked_lies}
use Rattle.files.proofs.Accepted.{file_accepted}
use Rattle.questions.specs.Questions.{places_of}
use Rattle.questions.proofs.Agreeing.{records_agree, records_lie, records_read, unfound, unmoved}
use Rattle.questions.proofs.Passing.{passes_once}
use Rattle.cuts.specs.Balance.{balanced}
use Rattle.cuts.proofs.Balancing.{balanced_legal, balanced_map, balanced_cuts}
use Rattle.demands.specs.Demands.{Through, Demand2}
use Rattle.demands.proofs.Through.{through}

-- the balanced list of an accepted one has room in tables
module _ (n : ℕ) (r : Runs) (c : Legal n r) (k : count_of r ≤ max_runs) (d : ℕ) (many : 2 ≤ d) where
  pub balanced_few : count_of (balanced d n r) ≤ max_intervals
  balanced_few = omega (arith, (balanced_cuts d n many r c).counted, (balanced_cuts d n many r c).fuelled)

  pub through_balanced : Through n r (balanced d n r)
  through_balanced = through n r (balanced d n r) c (balanced_legal d n many r c) balanced_few (balanced_map d n many r c)

pub demand2 : Demand2
demand2 = record {
  accepted = λ n r. (accepted_sequence n r, λ h. sequence_accepted n r h.0 h.1);
  accepted_disjoint = λ n r. (accepted_intervals n r, λ h. intervals_accepted n r h.0 h.1);
  accepted_split = λ n r. (
    λ e. let s = accepted_split n r e in (s.0, (map_of n r, s.1)),
    λ h. split_accepted n h.1.0 r h.0 h.1.1,
  );
  split_function = split_map;
  accepted_file = file_accepted;
  own_tables = λ n r a. let l = accepted_legal n r a in through n r r l.0 l.0 (omega (arith, l.1)) (λ p h. refl);
  legal_tables = λ n r c few. through n r r c c few (λ p h. refl);
  balanced_tables = λ n r d a many few. let l = accepted_legal n r a in through_balanced n r l.0 l.1 d many;
  move_reads = move_reads;
  bookmark_reads = marked_reads;
  questions_read = records_read;
  move_distance = λ n t x i s e. move_lies n t x i s e;
  moves_distance = moves_lie;
  bookmark_distance = marked_lies;
  questions_distance = records_lie;
  distance_unread = distance_unread;
  distance_forgotten = distance_forgotten;
  questions_agree = records_agree;
  questions_unfound = λ n t qs a left w p e. unfound n t (places_of qs) p (sym w.says ∙ e);
  questions_unmoved = λ n t qs a left w x e. unmoved n t (places_of qs) x (sym w.says ∙ e);
  questions_pass = λ n t qs a left w c e. passes_once n t qs a left w c e;
  lengths_rise = λ n t right.
      let l = t.links.list.starts in
      (right_rise n l t.lengths right, at_all (λ s. s < n) l (right_below n l t.lengths right));
  lengths_told = λ n t full right. right_told n t.links.list.starts t.lengths right full;
  find_linked = λ n t i full right. find_linked n t full i right;
  move_linked = λ n t x i full right. move_linked n t full x i right;
  moves_linked = λ n t m x i full right. moves_linked n t full m x i right;
  made_linked = λ n t m x i s full e. made_linked n t full m x i s e;
}
