-- The loop that judges. After i records what is known of them is the answer of the call on the first i, and the pass can go on
-- from there for any place that does not fall.
use Prim.Native.Nat.{ℕ, zero, suc, ◌-◌, ◌≤◌}
use mathlib.Core.Path.{◌≡◌, refl, sym, ap, subst, ◌∙◌}
use mathlib.Core.Bool.{Bool, true, false, true≢false}
use mathlib.Core.List.{List, [], ◌∷◌}
use native.Mathlib.Omega.{arith}
use lib.ListN.{length, get_or}
use lib.Dec.{ltb}
use borrow.Author.Tests.{le-ltb}
use Rattle.std.specs.Prelude.{Result}
use Rattle.outcomes.specs.Outcome.{Outcome, test, judge, ◌then◌else◌}
use Rattle.outcomes.specs.Search.{first_below, any_below}
use Rattle.outcomes.proofs.Searches.{any_old, any_here, any_not}
use Rattle.tables.specs.Tables.{Links, Tables, misshapen, shape_test, all_lengths, broken}
use Rattle.tables.specs.Parts.{ShapedLinks, Measured}
use Rattle.tables.proofs.Passing.{shaped}
use Rattle.walks.specs.Move.{found_at, unfindable}
use Rattle.walks.proofs.Finding.{found_on, found_first, found_below}
use Rattle.questions.specs.declared.Question.{Question}
use Rattle.questions.specs.declared.Unanswered.{Unanswered}
use Rattle.questions.specs.declared.judging.Standing.{Standing}
use Rattle.questions.specs.declared.judging.Standing.TheVariants.{Misshapen, Mismeasured, Fallen, Outside, Broken, Clear}
use Rattle.questions.specs.declared.judging.Judging.{Judging}
use Rattle.questions.specs.Questions.{answered_says, places_of, place_at, falls_at, unfindable_at, broken_at, found_last, answers_of}
use Rattle.questions.specs.Turns.{Onward, Findable, Going, Ready, standing_by, begun_of, settled, clear, fallen_of, standing_at, gone_of, outside_or, stayed_of, judged_of, verdict_of}

-- a record for an index that there is none at
abbrev pub blank : Question
blank = record { place = 0; interval = 0; to_place = 0; to_interval = 0; count = 0; distance = 0 }

pub place_at_lem : (qs : List Question) (i : ℕ) → (get_or qs i blank).place ≡ place_at (places_of qs) i
place_at_lem [] i = refl
place_at_lem (q ∷ qs) zero = refl
place_at_lem (q ∷ qs) (suc i) = place_at_lem qs i

pub length_places : (qs : List Question) → length (places_of qs) ≡ length qs
length_places [] = refl
length_places (q ∷ qs) = ap suc (length_places qs)

module _ (n : ℕ) (t : Tables) (ps : List ℕ) where
  abbrev k : Links
  k = t.links

  -- the answer on the first i records
  abbrev answers_up_to : ℕ → Outcome ℕ
  answers_up_to i =
      judge
      (shape_test n t ∷
      all_lengths n t ∷
      test 16 (any_below (falls_at ps) i) (first_below (falls_at ps) i) ∷
      test 11 (any_below (unfindable_at n k ps) i) (place_at ps (first_below (unfindable_at n k ps) i)) ∷
      test 12 (any_below (broken_at n k ps) i) (found_at k (place_at ps (first_below (broken_at n k ps) i))) ∷
      [])
      (found_last k ps i)

  -- what has been met, and what has not: by the tables, and after i records
  record Sound : Type 0 where
    shape : misshapen n t ≡ false
    right : Measured n t

  record Ordered (i : ℕ) : Type 0 where
    sound : Sound
    order : any_below (falls_at ps) i ≡ false

  record Ranged (i : ℕ) : Type 0 where
    before : Ordered i
    range : any_below (unfindable_at n k ps) i ≡ false

  -- x is the interval of the last record that was found, f the index of the one whose place fell
  abbrev Stands : ℕ → Standing → ℕ → ℕ → Type 0
  Stands i Misshapen x f = misshapen n t ≡ true
  Stands i (Mismeasured y) x f =
      (misshapen n t ≡ false) × ((all_lengths n t).applies ≡ true) × (y ≡ (all_lengths n t).place)
  Stands i Fallen x f = Sound × (any_below (falls_at ps) i ≡ true) × (f ≡ first_below (falls_at ps) i)
  Stands i (Outside p) x f =
      Ordered i × (any_below (unfindable_at n k ps) i ≡ true) × (p ≡ place_at ps (first_below (unfindable_at n k ps) i))
  Stands i Broken x f =
      Ranged i × (any_below (broken_at n k ps) i ≡ true) × (x ≡ found_at k (place_at ps (first_below (broken_at n k ps) i)))
  Stands i Clear x f = Ranged i × (any_below (broken_at n k ps) i ≡ false) × (x ≡ found_last k ps i)

  abbrev Known : ℕ → Judging → Type 0
  Known i s = Stands i s.standing s.interval s.fallen

  -- so the verdict is the answer on them
  stands_say : (i : ℕ) (s : Standing) (x f : ℕ) → Stands i s x f → answered_says (verdict_of s x f) ≡ answers_up_to i
  unfolding judge
  stands_say i Misshapen x f m = rw m
  stands_say i (Mismeasured y) x f (m, b, e) = rw (e, m, b)
  stands_say i Fallen x f (s, b, e) = rw (e, s.shape, s.right, b)
  stands_say i (Outside p) x f (o, b, e) = rw (e, o.sound.shape, o.sound.right, o.order, b)
  stands_say i Broken x f (r, b, e) =
      let o = r.before in rw (e, o.sound.shape, o.sound.right, o.order, r.range, b)
  stands_say i Clear x f (r, b, e) =
      let o = r.before in rw (e, o.sound.shape, o.sound.right, o.order, r.range, b)

  -- the place before record i
  abbrev place_before : ℕ → ℕ
  place_before zero = 0
  place_before (suc i) = place_at ps i

  fell : (i : ℕ) → ltb (place_at ps i) (place_before i) ≡ falls_at ps i
  unfolding falls_at
  fell zero = le-ltb (place_at ps 0) 0 (omega arith) ∙ sym (le-ltb (place_at ps 0) (place_at ps 0) (omega arith))
  fell (suc i) = let z : suc i - 1 ≡ i = omega arith in rw z

  -- one record more, at index i: whether its place falls decides
  module _ (i : ℕ) where
    fallen_stays : (x f : ℕ) → Stands i Fallen x f → Stands (suc i) Fallen x f
    fallen_stays x f (s, b, e) = let o = any_old (falls_at ps) i b in (s, o.0, e ∙ sym o.1)

    settles : (x : ℕ) → Ordered i → falls_at ps i ≡ true → Stands (suc i) Fallen x i
    settles x o f = let h = any_here (falls_at ps) i o.order f in (o.sound, h.0, sym h.1)

    -- it falls
    fallen_on : falls_at ps i ≡ true → (s : Standing) (x f : ℕ) → Stands i s x f
        → Stands (suc i) (settled s then s else Fallen) x (settled s then f else i)
    fallen_on b Misshapen x f h = h
    fallen_on b (Mismeasured y) x f h = h
    fallen_on b Fallen x f h = fallen_stays x f h
    fallen_on b (Outside q) x f h = settles x h.0 b
    fallen_on b Broken x f h = settles x h.0.before b
    fallen_on b Clear x f h = settles x h.0.before b

    fall_known : falls_at ps i ≡ true → (s : Judging) (p : ℕ) → Known i s → Known (suc i) (fallen_of s p i)
    unfolding fallen_of
    fall_known b s p h = go (settled s.standing) (fallen_on b s.standing s.interval s.fallen h)
      where
        next : Bool → Judging
        next z =
            z then record { standing = s.standing; interval = s.interval; last = p; fallen = s.fallen } else
            (record { standing = Fallen; interval = s.interval; last = p; fallen = i })

        go : (z : Bool) → Stands (suc i) (z then s.standing else Fallen) s.interval (z then s.fallen else i)
            → Known (suc i) (next z)
        go true h = h
        go false h = h

    -- it does not
    module _ (f : falls_at ps i ≡ false) where
      ordered_on : Ordered i → Ordered (suc i)
      ordered_on o = record { sound = o.sound; order = any_not (falls_at ps) i o.order f }

      ranged_on : unfindable_at n k ps i ≡ false → Ranged i → Ranged (suc i)
      ranged_on u r =
          record { before = ordered_on r.before; range = any_not (unfindable_at n k ps) i r.range u }

      outside_here : (x g : ℕ) → Ranged i → unfindable_at n k ps i ≡ true → Stands (suc i) (Outside (place_at ps i)) x g
      outside_here x g r u =
          let h = any_here (unfindable_at n k ps) i r.range u in
          (ordered_on r.before, h.0, ap (place_at ps) (sym h.1))

      -- the interval found for it
      abbrev y : ℕ
      y = found_at k (place_at ps i)

      at_known : (g : ℕ) → Ranged (suc i) → any_below (broken_at n k ps) i ≡ false
          → Stands (suc i) (standing_at n k y (place_at ps i)) y g
      unfolding standing_at broken_at
      at_known g r b = go (broken n k y (place_at ps i)) refl
        where
          go : (z : Bool) → broken n k y (place_at ps i) ≡ z → Stands (suc i) (z then Broken else Clear) y g
          go true e =
              let h = any_here (broken_at n k ps) i b e in
              (r, h.0, ap (λ (j : ℕ). found_at k (place_at ps j)) (sym h.1))
          go false e = (r, any_not (broken_at n k ps) i b e, refl)

      gone_known : (s : Judging) → Stands i Clear s.interval s.fallen → Known (suc i) (gone_of n k s (place_at ps i))
      unfolding gone_of unfindable_at
      gone_known s (r, b, e) = go (unfindable n k.list.starts (place_at ps i)) refl
        where
          next : Bool → Judging
          next z =
              z then record { standing = Outside (place_at ps i); interval = s.interval; last = place_at ps i; fallen = s.fallen } else
              (record { standing = standing_at n k y (place_at ps i); interval = y; last = place_at ps i; fallen = s.fallen })

          go : (z : Bool) → unfindable n k.list.starts (place_at ps i) ≡ z → Known (suc i) (next z)
          go true u = outside_here s.interval s.fallen r u
          go false u = at_known s.fallen (ranged_on u r) b

      broken_on : (x g : ℕ) → Stands i Broken x g
          → Stands (suc i) (unfindable n k.list.starts (place_at ps i) then Outside (place_at ps i) else Broken) x g
      unfolding unfindable_at
      broken_on x g (r, b, e) = go (unfindable n k.list.starts (place_at ps i)) refl
        where
          go : (z : Bool) → unfindable n k.list.starts (place_at ps i) ≡ z
              → Stands (suc i) (z then Outside (place_at ps i) else Broken) x g
          go true u = outside_here x g r u
          go false u =
              let o = any_old (broken_at n k ps) i b in
              (ranged_on u r, o.0, e ∙ ap (λ (j : ℕ). found_at k (place_at ps j)) (sym o.1))

      stays_known : (s : Standing) (x g : ℕ) → clear s ≡ false → Stands i s x g
          → Stands (suc i) (outside_or n k.list.starts s (place_at ps i)) x g
      stays_known Misshapen x g c h = h
      stays_known (Mismeasured y) x g c h = h
      stays_known Fallen x g c h = fallen_stays x g h
      stays_known (Outside p) x g c (o, b, e) =
          let a = any_old (unfindable_at n k ps) i b in (ordered_on o, a.0, e ∙ ap (place_at ps) (sym a.1))
      stays_known Broken x g c h = broken_on x g h
      stays_known Clear x g c h = absurd (true≢false c)

      stayed_known : (s : Judging) → clear s.standing ≡ false → Known i s
          → Known (suc i) (stayed_of n k.list.starts s (place_at ps i))
      unfolding stayed_of
      stayed_known s c h = stays_known s.standing s.interval s.fallen c h

      goes_known : (s : Judging) → clear s.standing ≡ true → Known i s → Known (suc i) (gone_of n k s (place_at ps i))
      goes_known s c h = go s.standing refl c h
        where
          go : (z : Standing) → s.standing ≡ z → clear z ≡ true → Stands i z s.interval s.fallen
              → Known (suc i) (gone_of n k s (place_at ps i))
          go Misshapen q c h = absurd (true≢false (sym c))
          go (Mismeasured z) q c h = absurd (true≢false (sym c))
          go Fallen q c h = absurd (true≢false (sym c))
          go (Outside p) q c h = absurd (true≢false (sym c))
          go Broken q c h = absurd (true≢false (sym c))
          go Clear q c h = gone_known s h

    judged_on : (s : Judging) (q : Question) → s.last ≡ place_before i → q.place ≡ place_at ps i
        → Known i s → Known (suc i) (judged_of n k s q i)
    unfolding judged_of
    judged_on s q l e h =
        let b = sym (fell i) ∙ sym (ap (λ (a : ℕ). ltb a s.last) e ∙ ap (ltb (place_at ps i)) l) in
        go (ltb q.place s.last) (clear s.standing) b refl
      where
        next : Bool → Bool → Judging
        next z w =
            z then fallen_of s q.place i else w then gone_of n k s q.place else
            stayed_of n k.list.starts s q.place

        go : (z w : Bool) → falls_at ps i ≡ z → clear s.standing ≡ w → Known (suc i) (next z w)
        go true w f c = fall_known f s q.place h
        go false true f c = subst (λ (p : ℕ). Known (suc i) (gone_of n k s p)) (sym e) (goes_known f s c h)
        go false false f c =
            subst (λ (p : ℕ). Known (suc i) (stayed_of n k.list.starts s p)) (sym e) (stayed_known f s c h)

  -- before the first record
  begun_stands : Known 0 (begun_of n t)
  unfolding begun_of standing_by
  begun_stands = go (misshapen n t) (all_lengths n t).applies refl refl
    where
      go : (z w : Bool) → misshapen n t ≡ z → (all_lengths n t).applies ≡ w
          → Stands 0 (z then Misshapen else w then Mismeasured (all_lengths n t).place else Clear) 0 0
      go true w m b = m
      go false true m b = (m, b, refl)
      go false false m b =
          (record { before = record { sound = record { shape = m; right = b }; order = refl }; range = refl }, refl, refl)

  sound_linked : Sound → ShapedLinks k
  sound_linked s = (shaped n t _ refl s.shape).linked

  -- the pass goes on from where it stands
  going : (i : ℕ) (s : Standing) (x f : ℕ) → Stands i s x f → (p : ℕ) → place_before i ≤ p → Going k s x p
  going i Misshapen x f h p l = tt
  going i (Mismeasured y) x f h p l = tt
  going i Fallen x f h p l = tt
  going i (Outside q) x f h p l = tt
  going i Broken x f (r, b, e) p l = sound_linked r.before.sound
  going i Clear x f (r, b, e) p l = go i e l
    where
      w : ShapedLinks k
      w = sound_linked r.before.sound

      go : (i : ℕ) → x ≡ found_last k ps i → place_before i ≤ p → Findable k x p
      go zero e l = rw e (record { shape = w; pass = record { index = w.some; on = found_first k p } })
      go (suc i) e l =
          let y = place_at ps i in
          let o : Onward k (found_at k y) p = record { index = found_below n k y w; on = found_on k y p l } in
          rw e (record { shape = w; pass = o })

-- what is known after i records
unfoldable pub judged_at : ℕ → Tables → List Question → ℕ → Judging
judged_at n t qs zero = begun_of n t
judged_at n t qs (suc i) = judged_of n t.links (judged_at n t qs i) (get_or qs i blank) i

-- the last place, either way
either_last : (z : Bool) (a b : Judging) (p : ℕ) → a.last ≡ p → b.last ≡ p → (◌then◌else◌ {A = Judging} z a b).last ≡ p
either_last true a b p e f = e
either_last false a b p e f = f

-- the verdict on the first i records
abbrev pub verdict_at : ℕ → Tables → List Question → ℕ → Result ℕ Unanswered
verdict_at n t qs i = let s = judged_at n t qs i in verdict_of s.standing s.interval s.fallen

module _ (n : ℕ) (t : Tables) (qs : List Question) where
  pub judged_first : judged_at n t qs 0 ≡ begun_of n t
  unfolding judged_at
  judged_first = refl

  pub judged_next : (i : ℕ) → judged_at n t qs (suc i) ≡ judged_of n t.links (judged_at n t qs i) (get_or qs i blank) i
  unfolding judged_at
  judged_next i = refl

  judged_last : (s : Judging) (q : Question) (i : ℕ) → (judged_of n t.links s q i).last ≡ q.place
  unfolding judged_of fallen_of gone_of stayed_of
  judged_last s q i =
      let p = q.place in
      either_last (ltb p s.last) _ _ p (either_last (settled s.standing) _ _ p refl refl)
      (either_last (clear s.standing) _ _ p (either_last (unfindable n t.links.list.starts p) _ _ p refl refl) refl)

  last_is : (i : ℕ) → (judged_at n t qs i).last ≡ place_before n t (places_of qs) i
  unfolding judged_at begun_of
  last_is zero = refl
  last_is (suc i) = judged_last (judged_at n t qs i) (get_or qs i blank) i ∙ place_at_lem qs i

  stands : (i : ℕ) → Known n t (places_of qs) i (judged_at n t qs i)
  unfolding judged_at
  stands zero = begun_stands n t (places_of qs)
  stands (suc i) =
      judged_on n t (places_of qs) i (judged_at n t qs i) (get_or qs i blank) (last_is i) (place_at_lem qs i) (stands i)

  pub ready : (i : ℕ) → Ready t.links (judged_at n t qs i)
  ready i p l =
      let s = judged_at n t qs i in
      going n t (places_of qs) i s.standing s.interval s.fallen (stands i) p (rw (last_is i) at l)

  -- the verdict after all records is the answer
  pub verdict_says : answered_says (verdict_at n t qs (length qs)) ≡ answers_of n t (places_of qs)
  unfolding answers_of
  verdict_says =
      let k = length (places_of qs) in
      let s = judged_at n t qs k in
      rw (← length_places qs) (stands_say n t (places_of qs) k s.standing s.interval s.fallen (stands k))
