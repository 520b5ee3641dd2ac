-- On the tables of a legal list the starts under an image are those of the definition, and the weight is their number: a
-- holder is the run that has the image, so the stretch begins at the first start not below it, and a length is end minus start,
-- so it ends where the image does.
use Prim.Native.Nat.{ℕ, ◌+◌, ◌≤◌, ◌<◌}
use mathlib.Core.Path.{◌≡◌, sym, ap, ◌∙◌}
use Rattle.order.specs.Lists.{count_below}
use Rattle.outcomes.specs.Outcome.{done}
use Rattle.runs.specs.Runs.{Runs, count_of, image_of, image_end}
use Rattle.runs.specs.Legal.{Legal}
use Rattle.runs.specs.Weight.{under, weight}
use Rattle.runs.proofs.Walks.{under_first_lem, under_count_lem, under_is}
use Rattle.tables.specs.Tables.{links_of, tables_of, max_intervals}
use Rattle.tables.proofs.Lengths.{lengths_at}
use Rattle.tables.proofs.LegalShape.{shape, holder_is, legal_held, legal_length}
use Rattle.weights.specs.Under.{image_end_at, under_first, under_count, weight_of, under_of, stretch, starts_under_of}
use Rattle.weights.proofs.Stretches.{placed, size_done, weight_indexed, under_done}

module _ (n : ℕ) (r : Runs) (c : Legal n r) (few : count_of r ≤ max_intervals) (x : ℕ) (h : x < count_of r) where
  legal_end : image_end_at (tables_of n r) x ≡ image_end n r x
  legal_end = ap (λ (l : ℕ). image_of r x + l) (lengths_at n r.starts x h)

  legal_first : under_first (links_of n r) x ≡ count_below (image_of r x) r.starts
  unfolding under_first
  legal_first = rw (holder_is n r c few x h) (under_first_lem n r c x h)

  legal_count : under_count (tables_of n r) x ≡ weight n r x
  unfolding under_count
  legal_count = rw (legal_end, legal_first) (under_count_lem n r c x)

  pub legal_weight : weight_of n (tables_of n r) x ≡ done (weight n r x)
  legal_weight =
      let p = placed n (tables_of n r) x (legal_held n r c few x h) (rw legal_end (c.within x h)) in
      weight_indexed n (tables_of n r) x (record { shape = shape n r c few; index = h })
      ∙ sym (size_done n (tables_of n r) x (legal_length n r c x h) p)
      ∙ ap done legal_count

  pub legal_stretch : done (record { first = count_below (image_of r x) r.starts; count = weight n r x })
      ≡ under_of n (tables_of n r) x
  legal_stretch = under_done n (tables_of n r) x _ (sym legal_weight) _ (sym legal_first)

  pub legal_under : starts_under_of n (tables_of n r) x ≡ under n r x
  unfolding starts_under_of stretch
  legal_under = rw (← legal_stretch) (sym (under_is n r c x))
