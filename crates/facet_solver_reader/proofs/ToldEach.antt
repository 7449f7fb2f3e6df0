-- What is told of several values, one after another.
use Rattle.std.proofs.Common.{◌≡◌, ◌∙◌, sym, ap, subst, ℕ, ◌+◌, ◌≤◌, List, []}
use Rattle.std.proofs.Common.{◌∷◌, ◌++◌, map, length, take, take_all, Some, slice_get}
use Rattle.std.proofs.lemmas.List.{take_more}
use Rattle.std.proofs.lemmas.Option.{slice_get_within, get_or_from_slice_get}
use Rattle.facet_solver_shape.specs.Catalogues.{Catalogue}
use Rattle.facet_solver_reader.specs.declared.reading.Reading as code
use Rattle.facet_solver_reader.specs.Choices.{Reading, Readings, no_readings, reading}
use Rattle.facet_solver_reader.specs.Rules.{Rules}
use Rattle.facet_solver_reader.specs.Told.{TellsAs, TellsEach, ValueAs, no_values, one_value}
use Rattle.facet_solver_reader.specs.Values.{ReadsEach}

module _ (rules : Rules) (shapes : Catalogue) {A : Type 0} (P : A → Reading → Type 0)
    (f : A → ValueAs) where
  -- readings of several things are told
  pub record EachTold (xs : List A) (ws : List code.Reading) : Type 0 where
    pub readings : Readings
    pub reads : ReadsEach P xs readings
    pub tells : TellsEach rules shapes (map f xs) readings ws

  -- of nothing there is nothing to tell
  pub none_told : EachTold [] []
  none_told = record { readings = no_readings; reads = tt; tells = no_values }

  -- one more at the end is told
  last_told : (xs : List A) (x : A) (rs : Readings) (ws : List code.Reading) (r : Reading)
      (w : code.Reading) → ReadsEach P xs rs → TellsEach rules shapes (map f xs) rs ws → P x r
      → TellsAs rules shapes (f x).0 (f x).1 r w.variants.items w.kind
      → EachTold (xs ++ x ∷ []) (ws ++ w ∷ [])
  last_told [] x no_readings ws r w h no_values p u =
      record {
        readings = reading r no_readings;
        reads = (p, tt);
        tells = one_value (f x) r w [] no_readings [] u no_values;
      }
  last_told [] x (reading q qs) ws r w h t p u = absurd h
  last_told (y ∷ ys) x no_readings ws r w h t p u = absurd h
  last_told (y ∷ ys) x (reading q qs) ws r w h (one_value v q1 w1 vs qs1 ws1 t ts) p u =
      let below = last_told ys x qs ws1 r w h.1 ts p u in
      record {
        readings = reading q below.readings;
        reads = (h.0, below.reads);
        tells = one_value (f y) q w1 (map f (ys ++ x ∷ [])) below.readings (ws1 ++ w ∷ []) t
            below.tells;
      }

  -- one more, up to a place, is told
  pub more_told : (xs : List A) (i : ℕ) (x : A) (ws : List code.Reading) (r : Reading)
      (w : code.Reading) → slice_get xs i ≡ Some x → EachTold (take i xs) ws → P x r
      → TellsAs rules shapes (f x).0 (f x).1 r w.variants.items w.kind
      → EachTold (take (i + 1) xs) (ws ++ w ∷ [])
  more_told xs i x ws r w there h p t =
      let is : take (i + 1) xs ≡ take i xs ++ x ∷ [] =
      take_more xs i x (slice_get_within xs i x there)
      ∙ ap (λ y. take i xs ++ y ∷ []) (get_or_from_slice_get xs i x x there) in
      subst (λ (ys : List A). EachTold ys (ws ++ w ∷ [])) (sym is)
      (last_told (take i xs) x h.readings ws r w h.reads h.tells p t)

  -- up to the end is all
  pub all_told : (xs : List A) (i : ℕ) (ws : List code.Reading) → length xs ≤ i
      → EachTold (take i xs) ws → EachTold xs ws
  all_told xs i ws all h = subst (λ (ys : List A). EachTold ys ws) (take_all i xs all) h
