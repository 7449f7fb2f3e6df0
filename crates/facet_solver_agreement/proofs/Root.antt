-- The choices of a root's parts are those of its schema.
use Rattle.std.proofs.Common.{◌≡◌, refl, sym, ap, ◌∙◌, ℕ, Bool, false, List, [], Option}
use Rattle.std.proofs.Common.{None, length, append-nil}
use Rattle.std.specs.Prelude.{All}
use Rattle.std.specs.Option.{option_map_or}
use Rattle.facet_solver_shape.specs.declared.shape.Field.{Field}
use Rattle.facet_solver_shape.specs.declared.shape.Shape.{Shape}
use Rattle.facet_solver_shape.specs.declared.shape.StructKind.TheVariants.{Struct as ByName}
use Rattle.facet_solver_shape.specs.Catalogues.{Catalogue, FieldsBelow, IsChecked, NamesEarlier}
use Rattle.facet_solver_shape.specs.Catalogues.{kind_of}
use Rattle.facet_solver_shape.specs.Representation.{Repr, flattened, externally_tagged}
use Rattle.facet_solver_shape.specs.Representation.{internally_tagged, adjacently_tagged}
use Rattle.facet_solver_shape.specs.Representation.{repr_of_shape}
use Rattle.facet_solver_shape.specs.Roles.{Role, regular, block, alternatives, catch_all, leaf}
use Rattle.facet_solver_shape.specs.Roles.{role_of}
use Rattle.facet_solver_shape.proofs.Catalogues.{names_earlier}
use Rattle.facet_solver.specs.declared.build.format.Format.{Format}
use Rattle.facet_solver.specs.build.Build.{Build, build_with}
use Rattle.facet_solver.specs.build.Choice.{Emits}
use Rattle.facet_solver.specs.build.Emissions.{Emission}
use Rattle.facet_solver.specs.build.Place.{at_root}
use Rattle.facet_solver.specs.build.Walk.{walk_fields, walk_root}
use Rattle.facet_solver.proofs.Roles.{struct-below}
use Rattle.facet_solver.proofs.Walk.{root-fields}
use Rattle.facet_solver_reader.specs.Choices.{Choice, Item}
use Rattle.facet_solver_reader.specs.Known.{Chooses, ChoosesAll}
use Rattle.facet_solver_reader.specs.Parts.{Part, Target, of_content, of_struct}
use Rattle.facet_solver_reader.specs.Types.{parts_of, parts_of_fields, parts_of_struct, repr_at}
use Rattle.facet_solver_reader.proofs.Quantifiers.{all_at, all_from}
use Rattle.facet_solver_agreement.specs.Alike.{flattens_adjacent, is_adjacent}
use Rattle.facet_solver_agreement.specs.Alike.{IsTakenAlike}
use Rattle.facet_solver_agreement.specs.Asked.{is_adjacent_content}
use Rattle.facet_solver_agreement.specs.Indices.{indices_of, indices_of_parts}
use Rattle.facet_solver_agreement.specs.Met.{AreMet}
use Rattle.facet_solver_agreement.specs.Same.{IsChosenAs, IsWalkedAs}
use Rattle.facet_solver_agreement.proofs.Agreeing.{AgreeList, agree_list, agree_same}
use Rattle.facet_solver_agreement.proofs.Contents.{Stands, stands}
use Rattle.facet_solver_agreement.proofs.Walks.{AreLeftOut, FlattensLeftOut, LeavesOut, walk_agrees}

module _ (shapes : Catalogue) (root : ℕ) (format : Format) (checked : IsChecked shapes)
    (alike : IsTakenAlike shapes root)
  where
    abbrev build : Build
    build = build_with shapes None format

    earlier : NamesEarlier shapes
    earlier = names_earlier shapes checked

    abbrev fs : List Field
    fs = alike.plain.fields.items

    abbrev ps : List Part
    ps = parts_of_fields shapes fs

    walk_is : (ns : List ℕ) → walk_root build root ns ≡ walk_fields build fs at_root ns
    walk_is ns =
        let plain = alike.plain in
        root-fields build root ns plain.shape plain.is_there ByName plain.fields plain.is_struct

    low : FieldsBelow (length shapes) fs
    low =
        let plain = alike.plain in
        struct-below shapes earlier root plain.shape plain.is_there ByName plain.fields
        plain.is_struct

    -- the walk of the root agrees with the choices of its parts, whatever is left out
    by_left_out : (left_out : Target → Bool) → LeavesOut shapes left_out
        → ((gs : List Field) → AreMet shapes fs gs
        → All (λ f. FlattensLeftOut left_out (role_of shapes f)) gs)
        → AgreeList left_out (parts_of shapes) (λ ns. walk_root build root ns) (of_struct root)
    by_left_out left_out leaves all_left_out =
        agree_list left_out (parts_of shapes) (of_struct root) ps (λ ns. walk_root build root ns)
        (ap (parts_of_struct shapes) (ap kind_of alike.plain.is_there ∙ alike.plain.is_struct))
        (agree_same left_out (λ ns. walk_fields build fs at_root ns) (λ ns. walk_root build root ns)
        (ChoosesAll (parts_of shapes) ps) (λ c. indices_of_parts (parts_of shapes) c ps)
        (λ ns. sym (walk_is ns))
        (walk_agrees left_out shapes leaves format earlier fs alike.named all_left_out
        (length shapes) fs low (0, refl) at_root))

    -- ---- with the content of adjacently tagged enums left out
    adjacent_left_out : LeavesOut shapes (is_adjacent_content shapes)
    adjacent_left_out =
        record { no_shape = λ id. refl; no_tag = λ name. refl; no_other = λ id k e. e }

    -- of a flattened enum that is adjacently tagged all contents are left out
    flattens_left_out : (r : Role) → Stands shapes r
        → FlattensLeftOut (is_adjacent_content shapes) r
    flattens_left_out regular h = tt
    flattens_left_out (block target gs) h = tt
    flattens_left_out (alternatives target t vs) h = go (repr_of_shape t) refl
      where
        is : repr_at shapes target.shape ≡ repr_of_shape t
        is = ap (λ (o : Option Shape). option_map_or repr_of_shape o flattened) h.0

        go : (repr : Repr) → repr_of_shape t ≡ repr
            → AreLeftOut (λ k. is_adjacent_content shapes (of_content target.shape k)) repr
        go flattened e = tt
        go externally_tagged e = tt
        go (internally_tagged tag) e = tt
        go (adjacently_tagged tag content) e = λ k. ap is_adjacent (is ∙ e)
    flattens_left_out (catch_all target) h = tt
    flattens_left_out (leaf target) h = tt

    pub root_agrees : AgreeList (is_adjacent_content shapes) (parts_of shapes)
        (λ ns. walk_root build root ns) (of_struct root)
    root_agrees =
        by_left_out (is_adjacent_content shapes) adjacent_left_out
        (λ gs met.
        all_from (λ f. FlattensLeftOut (is_adjacent_content shapes) (role_of shapes f)) gs
        (λ k f at. flattens_left_out (role_of shapes f) (stands shapes f)))

    -- each choice of the reader is one of the schema
    pub walked_as : (c : Choice) (items : List Item)
        → Chooses (parts_of shapes) (of_struct root) c items → IsWalkedAs build root c items
    walked_as c items h =
        let r = root_agrees.walked c items h in
        record {
          emissions = r.emissions;
          emitted =
              ap (walk_root build root) (sym (append-nil (indices_of shapes root c))) ∙ r.walks [];
          same = r.same;
        }

    -- and each of the schema is one of the reader
    pub chosen_as : (choice : List ℕ) (es : List Emission) → Emits build root choice es
        → IsChosenAs shapes root choice es
    chosen_as choice es e =
        let r = root_agrees.chosen choice es [] e in
        record {
          readers = r.choice;
          items = r.items;
          chooses = r.chooses;
          indices = sym (append-nil (indices_of shapes root r.choice)) ∙ sym r.used;
          same = r.same;
        }

    -- ---- with nothing left out, where no adjacently tagged enum is flattened
    nothing_left_out : LeavesOut shapes (λ target. false)
    nothing_left_out =
        record { no_shape = λ id. refl; no_tag = λ name. refl; no_other = λ id k e. refl }

    flattens_none : (r : Role) → flattens_adjacent r ≡ false → FlattensLeftOut (λ target. false) r
    flattens_none regular h = tt
    flattens_none (block target gs) h = tt
    flattens_none (alternatives target t vs) h = go (repr_of_shape t) h
      where
        go : (repr : Repr) → is_adjacent repr ≡ false → AreLeftOut (λ k. false) repr
        go flattened h = tt
        go externally_tagged h = tt
        go (internally_tagged tag) h = tt
        go (adjacently_tagged tag content) h = absurd (cc)
    flattens_none (catch_all target) h = tt
    flattens_none (leaf target) h = tt

    pub whole_root_agrees : ((gs : List Field) → AreMet shapes fs gs
        → All (λ f. flattens_adjacent (role_of shapes f) ≡ false) gs)
        → AgreeList (λ target. false) (parts_of shapes) (λ ns. walk_root build root ns)
        (of_struct root)
    whole_root_agrees none_adjacent =
        by_left_out (λ target. false) nothing_left_out
        (λ gs met.
        all_from (λ f. FlattensLeftOut (λ target. false) (role_of shapes f)) gs
        (λ k f at.
        flattens_none (role_of shapes f)
        (all_at (λ g. flattens_adjacent (role_of shapes g) ≡ false) gs k f (none_adjacent gs met)
        at)))
