use Rattle.std.proofs.Common.{◌≡◌, refl, sym, ap, subst, ◌∙◌, List, Some, Vec, Global}
use Rattle.std.specs.List.{All}
use Rattle.std.specs.Option.{option_map}
use Rattle.facet_solver_reader.specs.declared.part.Part.{Part}
use Rattle.facet_solver_reader.specs.declared.tables.List.{List as ListEntry}
use Rattle.facet_solver_reader.specs.Placing.{AreBelow, ArePartNames, IsRestOf, IsWhyShared, PartHasBranchNamesIn}
use Rattle.facet_solver_reader.specs.Types.{parts_of}
use Rattle.facet_solver_reader.specs.Views.{list_view, parts_view}
use Rattle.facet_solver_reader.proofs.Lists.{no_choice_of_no_list}
use Rattle.facet_solver_reader.proofs.AboutFaults.{about_shared}
use Rattle.facet_solver_reader.proofs.PlacedKeys.{distinct_of_entry, known_of_entry_keys, named_of_parts, unordered_shared}
use Rattle.facet_solver_reader.proofs.tables.order.Ordered.list_of.Goals as goal
use Rattle.facet_solver_reader.proofs.tables.order.Ordered.list_of.Goals.{in-Some, in-None}

pub returns-in-Err-clause-err : goal.returns-in-Err-clause-err
returns-in-Err-clause-err c =
    let o = c.args.self.now in
    let id = list_view c.args.id.now in
    let ps = parts_view c.name_selections.new.parts.items in
    let made : parts_of c.args.types.now id ≡ Some (parts_view c.match-branch-2.parts.items) = elim c.match-branch-2.branch [
      | in-Some w ↦ sym c.in_ok-parts.ensures ∙ ap (option_map (λ (v : Vec Part Global). parts_view v.items)) w.in-Some.is ∙ ap (λ (v : Vec Part Global). Some (parts_view v.items)) (sym w.parts-is)
      | in-None w ↦ absurd (no_choice_of_no_list (parts_of c.args.types.now) id (sym c.in_ok-parts.ensures ∙ ap (option_map (λ (v : Vec Part Global). parts_view v.items)) w.in-None.is) c.requires.chosen)
    ] in
    let same : parts_of c.args.types.now id ≡ Some ps = made ∙ ap Some (sym c.in_ok-name_selections.ensures.same) in
    unordered_shared c.args.types.now o c.requires.placing id ps same c.requires.chosen (c.requires.next ps same) c.in-Err.fault
    (subst (λ (qs : List Part). IsWhyShared o id (parts_view qs) c.in-Err.fault) c.deref.ensures.value c.in-Err.ensures.err)

pub returns-in-Err-takes_rest-clause-err : goal.returns-in-Err-takes_rest-clause-err
returns-in-Err-takes_rest-clause-err c =
    let o = c.args.self.now in
    let id = list_view c.args.id.now in
    let ps = parts_view c.name_selections.new.parts.items in
    let made : parts_of c.args.types.now id ≡ Some (parts_view c.match-branch-2.parts.items) = elim c.match-branch-2.branch [
      | in-Some w ↦ sym c.in_ok-parts.ensures ∙ ap (option_map (λ (v : Vec Part Global). parts_view v.items)) w.in-Some.is ∙ ap (λ (v : Vec Part Global). Some (parts_view v.items)) (sym w.parts-is)
      | in-None w ↦ absurd (no_choice_of_no_list (parts_of c.args.types.now) id (sym c.in_ok-parts.ensures ∙ ap (option_map (λ (v : Vec Part Global). parts_view v.items)) w.in-None.is) c.requires.chosen)
    ] in
    let same : parts_of c.args.types.now id ≡ Some ps = made ∙ ap Some (sym c.in_ok-name_selections.ensures.same) in
    unordered_shared c.args.types.now o c.requires.placing id ps same c.requires.chosen (c.requires.next ps same) c.in-Err-takes_rest.fault
    (subst (λ (qs : List Part). IsWhyShared o id (parts_view qs) c.in-Err-takes_rest.fault) c.deref-2.ensures.value c.in-Err-takes_rest.ensures.err)

pub returns-clause-ok : goal.returns-clause-ok
returns-clause-ok c =
    let o = c.args.self.now in
    let id = list_view c.args.id.now in
    let ps = parts_view c.name_selections.new.parts.items in
    let made : parts_of c.args.types.now id ≡ Some (parts_view c.match-branch-2.parts.items) = elim c.match-branch-2.branch [
      | in-Some w ↦ sym c.in_ok-parts.ensures ∙ ap (option_map (λ (v : Vec Part Global). parts_view v.items)) w.in-Some.is ∙ ap (λ (v : Vec Part Global). Some (parts_view v.items)) (sym w.parts-is)
      | in-None w ↦ absurd (no_choice_of_no_list (parts_of c.args.types.now) id (sym c.in_ok-parts.ensures ∙ ap (option_map (λ (v : Vec Part Global). parts_view v.items)) w.in-None.is) c.requires.chosen)
    ] in
    let same : parts_of c.args.types.now id ≡ Some ps = made ∙ ap Some (sym c.in_ok-name_selections.ensures.same) in
    let names : ArePartNames o ps c.in-Ok.names.items = subst (λ (qs : List Part). ArePartNames o (parts_view qs) c.in-Ok.names.items) c.deref.ensures.value c.in-Ok.ensures.ok in
    let takes : IsRestOf o ps c.in-Ok-takes_rest.takes_rest = subst (λ (qs : List Part). IsRestOf o (parts_view qs) c.in-Ok-takes_rest.takes_rest) c.deref-2.ensures.value c.in-Ok-takes_rest.ensures.ok in
    let l : ListEntry = record { id = c.args.id.now; parts = c.name_selections.new.parts; names = c.in-Ok.names; takes_rest = c.in-Ok-takes_rest.takes_rest; below = c.in_ok-below.below } in
    let ready = c.requires.next ps same in
    record {
      is_of = refl;
      same = same;
      distinct = distinct_of_entry c.args.types.now o c.requires.placing id ps same c.requires.chosen ready l names takes;
      known = known_of_entry_keys c.args.types.now o c.requires.placing id ps same c.requires.chosen ready l names takes;
      sorted = names.sorted;
      named = named_of_parts c.args.types.now o c.requires.placing c.name_selections.new.parts.items ready c.in_ok-name_selections.ensures.named;
      below = subst (λ (qs : List Part). AreBelow o (parts_view qs) c.in_ok-below.below.items) c.deref-3.ensures.value c.in_ok-below.ensures;
    }

pub returns-in-Err-clause-about : goal.returns-in-Err-clause-about
returns-in-Err-clause-about c =
    about_shared c.args.self.now (list_view c.args.id.now) (parts_view c.deref.result.now) c.in-Err.fault c.in-Err.ensures.err

pub returns-in-Err-takes_rest-clause-about : goal.returns-in-Err-takes_rest-clause-about
returns-in-Err-takes_rest-clause-about c =
    about_shared c.args.self.now (list_view c.args.id.now) (parts_view c.deref-2.result.now) c.in-Err-takes_rest.fault c.in-Err-takes_rest.ensures.err

pub names_of-requires : goal.names_of-requires
names_of-requires c =
    record {
      named = subst (All (PartHasBranchNamesIn c.args.self.now)) (sym c.deref.ensures.value) c.in_ok-name_selections.ensures.named;
    }
