-- What several choices ask is what each asks, one after another.
use Rattle.std.proofs.Common.{◌≡◌, List, [], ◌∷◌, ◌++◌, Bool, true, false, ap, refl}
use Rattle.std.specs.Prelude.{if◌then◌else◌}
use Rattle.facet_solver.specs.build.Emissions.{Emission, a_field, some_key_paths, a_selection}
use Rattle.facet_solver.specs.build.Emissions.{a_catch_all}
use Rattle.facet_solver_reader.specs.Choices.{Item, member_of, catch_all_of, presence_of}
use Rattle.facet_solver_reader.specs.Choices.{presence}
use Rattle.facet_solver_reader.specs.Parts.{ListId, Selection, Target}
use Rattle.facet_solver_agreement.specs.Asked.{asked_but, asked_by_field, asked_by_member}
use Rattle.facet_solver_agreement.specs.Asked.{asked_by_walk}

pub walk_append : (es fs : List Emission)
    → asked_by_walk (es ++ fs) ≡ asked_by_walk es ++ asked_by_walk fs
walk_append [] fs = refl
walk_append (a_field f ∷ es) fs = ap (λ others. asked_by_field f ∷ others) (walk_append es fs)
walk_append (some_key_paths p ∷ es) fs = walk_append es fs
walk_append (a_selection s ∷ es) fs = walk_append es fs
walk_append (a_catch_all f ∷ es) fs = walk_append es fs

-- the selection of some branches, which may be absent or not
abbrev pub selection : Bool → List ListId → Selection
selection optional branches = record { optional = optional; branches = branches }

module _ (left_out : Target → Bool) where
  pub items_append : (xs ys : List Item)
      → asked_but left_out (xs ++ ys) ≡ asked_but left_out xs ++ asked_but left_out ys
  items_append [] ys = refl
  items_append (member_of m r ∷ xs) ys = go (left_out m.target) (items_append xs ys)
    where
      go : (b : Bool)
          → asked_but left_out (xs ++ ys) ≡ asked_but left_out xs ++ asked_but left_out ys
          → (if b then asked_but left_out (xs ++ ys)
          else asked_by_member m ∷ asked_but left_out (xs ++ ys))
          ≡ (if b then asked_but left_out xs else asked_by_member m ∷ asked_but left_out xs)
          ++ asked_but left_out ys
      go true e = e
      go false e = ap (λ others. asked_by_member m ∷ others) e
  items_append (catch_all_of k t ∷ xs) ys = items_append xs ys
  items_append (presence_of s ∷ xs) ys = items_append xs ys

  -- the presence of a selection asks nothing
  pub presence_asks : (optional : Bool) (branches : List ListId) (items : List Item)
      → asked_but left_out (presence (selection optional branches) ++ items)
      ≡ asked_but left_out items
  presence_asks true branches items = refl
  presence_asks false branches items = refl
