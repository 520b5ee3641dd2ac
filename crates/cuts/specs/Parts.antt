-- The pieces that cuts make of a list's runs: what the private searches for them ask and promise.
use Rattle.std.specs.Prelude.{ℕ, ◌+◌, ◌-◌, ◌*◌, ◌≤◌, ◌<◌, ◌≡◌, true, false, List, get_or, ltb}
use Rattle.order.specs.Lists.{All, bit, count_below}
use Rattle.merging.specs.Merged.{Starts}
use Rattle.runs.specs.Runs.{Runs, runs_in, count_of, start_of, image_of, image_end, map_of}
use Rattle.runs.specs.Weight.{weight}
use Rattle.cuts.specs.Cuts.{with_cuts}
use Rattle.cuts.specs.Ranks.{Ranked}
use Rattle.cuts.specs.declared.CutRuns.{CutRuns}
use Rattle.merging.specs.declared.Entries.{Entries}
use Rattle.cuts.specs.declared.Piece.{Piece}
use Rattle.cuts.specs.declared.Spot.{Spot}
use Rattle.cuts.specs.declared.Here.{Here}
use Rattle.cuts.specs.declared.Looked.{Looked}
use Rattle.cuts.specs.declared.Front.{Front}
use Rattle.cuts.specs.declared.Stand.{Stand}

-- the starts and cuts of a list with cuts
abbrev pub entries_in : CutRuns → Entries
entries_in l = record { n = l.list.n; starts = l.list.starts; cuts = l.cuts }

-- the list after the cuts
abbrev pub after_cuts : CutRuns → Runs
after_cuts l = with_cuts l.list.n (runs_in l.list) l.cuts.now

-- what the parts of the sweep know of it: its runs are ranked, and its starts and cuts are those of one list
pub record InOrder (l : CutRuns) : Type 0 where
  pub ranked : Ranked l.list.n (runs_in l.list) l.order.now l.ranked.now
  pub starts : Starts l.list.n l.list.starts.now l.cuts.now

-- an interval of q has its image at p
pub record Begins (q : Runs) (p : ℕ) : Type 0 where
  pub index : ℕ
  pub known : index < count_of q
  pub at : image_of q index ≡ p

-- no image goes on past place p
abbrev pub Edge : ℕ → Runs → ℕ → Type 0
Edge n q p = (x : ℕ) → x < count_of q → image_of q x < p → image_end n q x ≤ p

-- the numbers of the interval of q that has its image at p
pub record PieceAt (n : ℕ) (q : Runs) (p : ℕ) (piece : Piece) : Type 0 where
  pub index : ℕ
  pub known : index < count_of q
  pub at : image_of q index ≡ p
  pub start_is : start_of q index ≡ piece.start
  pub to_is : image_end n q index ≡ piece.to

-- r is the higher of a start and the last of the first `count` cuts
pub record Higher (start : ℕ) (cuts : List ℕ) (count r : ℕ) : Type 0 where
  pub start_is : (0 < count → get_or cuts (count - 1) 0 ≤ start) → r ≡ start
  pub cut_is : 0 < count → start < get_or cuts (count - 1) 0 → r ≡ get_or cuts (count - 1) 0

-- p is where the image begins in which u lies
pub record Covers (n : ℕ) (q : Runs) (u p : ℕ) : Type 0 where
  pub index : ℕ
  pub known : index < count_of q
  pub at : image_of q index ≡ p
  pub from : p ≤ u
  pub to : u < image_end n q index

-- where the image begins in which u lies, and its piece
pub record Around (n : ℕ) (q : Runs) (u : ℕ) (spot : Spot) : Type 0 where
  pub covers : Covers n q u spot.p
  pub piece_at : PieceAt n q spot.p spot.piece

-- after a cut that added u: at the front Q or, if u is before it, where the image begins in which u lies
pub record BackAt (n : ℕ) (q : Runs) (Q u : ℕ) (spot : Spot) : Type 0 where
  pub around : u < Q → Around n q u spot
  pub stays : Q ≤ u → spot.p ≡ Q

-- where the sweep stands an image begins, at the front or behind it, and behind it the piece is known
pub record BehindAt (n : ℕ) (q : Runs) (at : Stand) : Type 0 where
  pub begins : Begins q at.p
  pub ordered : at.p ≤ at.front.q
  pub known : at.p < at.front.q → PieceAt n q at.p at.piece

-- the piece at p, and the mark before it
pub record HereAt (n : ℕ) (r : Runs) (cuts : List ℕ) (p : ℕ) (here : Here) : Type 0 where
  pub piece_at : PieceAt n (with_cuts n r cuts) p here.piece
  pub starts_before : here.mark.starts ≡ count_below p r.starts
  pub cuts_before : here.mark.cuts ≡ count_below p cuts

-- the front: its rank is that of the run whose image has q, or past the last where q is n; no cut lies ahead of it
pub record FrontAt (n : ℕ) (r : Runs) (ranked cuts : List ℕ) (front : Front) : Type 0 where
  pub most : front.rank ≤ count_of r
  pub from : get_or ranked front.rank n ≤ front.q
  pub to : front.q < n → front.q < get_or ranked (front.rank + 1) n
  pub passed : All (λ v. map_of n r v ≤ front.q) cuts
  pub starts_before : front.mark.starts ≡ count_below front.q r.starts
  pub cuts_before : front.mark.cuts ≡ count_below front.q cuts

-- the front after a look at the piece at p
pub record Passes (front : Front) (p : ℕ) (looked : Looked) (r : Front) : Type 0 where
  pub behind : p < front.q → r ≡ front
  pub cut : front.q ≤ p → looked.heavy ≡ true
      → r ≡ record { q = looked.to; rank = front.rank; mark = looked.mark }
  pub on : front.q ≤ p → looked.heavy ≡ false
      → r ≡ record { q = looked.to; rank = front.rank + 1; mark = looked.mark }

-- the front moved on: what it passes of the list after the cuts is light, and it stops between two images
pub record PassesLight (d n : ℕ) (r : Runs) (ranked cuts : List ℕ) (front m : Front) : Type 0 where
  pub at : FrontAt n r ranked cuts m
  pub on : front.q ≤ m.q
  pub within : m.q ≤ n
  pub edge : Edge n (with_cuts n r cuts) m.q
  pub light : (x : ℕ) → x < count_of (with_cuts n r cuts) → front.q ≤ image_of (with_cuts n r cuts) x
      → image_of (with_cuts n r cuts) x < m.q → weight n (with_cuts n r cuts) x < 2 * d

-- the front with a cut at u counted
pub record Counts (front : Front) (u : ℕ) (r : Front) : Type 0 where
  pub q_kept : r.q ≡ front.q
  pub rank_kept : r.rank ≡ front.rank
  pub starts_kept : r.mark.starts ≡ front.mark.starts
  pub counted : r.mark.cuts ≡ front.mark.cuts + bit (ltb u front.q)

-- the sweep at this front
pub record AtFront (front : Front) (at : Stand) : Type 0 where
  pub p_is : at.p ≡ front.q
  pub front_is : at.front ≡ front

-- after a cut that added u, which the front counts
pub record AfterCut (n : ℕ) (q : Runs) (front : Front) (u : ℕ) (at : Stand) : Type 0 where
  pub counts : Counts front u at.front
  pub back : BackAt n q front.q u (record { p = at.p; piece = at.piece })
