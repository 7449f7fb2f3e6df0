use Rattle.std.proofs.Common.{◌≡◌, ◌++◌, ◌+◌, ◌*◌, ◌<◌, ◌≤◌, ◌∙◌, ℕ, ap, arith, length, slice_get, subst, take}
use Rattle.facet_solver.specs.build.Build.{Catalogue, build_of, kind_at}
use Rattle.facet_solver.specs.build.FieldCount.{field_count, fields_of_kind}
use Rattle.facet_solver.specs.build.NestedTable.{HasVariants, IsMarked}
use Rattle.facet_solver.specs.build.Reached.{AskedAmong, marked, reach}
use Rattle.facet_solver.proofs.Marks.{NoMark, among-none, none_before, none_behind, none_marked}
use Rattle.facet_solver.proofs.NestedTable.{fields_with_earlier, no_marks}
use Rattle.facet_solver.proofs.Reached.{shape_kept}
use Rattle.facet_solver.proofs.build.nested.tables.NestedTables.new.Goals as goal

pub returns-clause-root : goal.returns-clause-root
returns-clause-root c =
    let m = reach c.mark_reached.new.walked c.mark_reached.new.structs in
    record {
      marks = m;
      follows = record {
        closed = λ id marked. shape_kept m m (λ id m. m) (λ id m. m) (IsMarked c.mark_reached.new.apart id) (HasVariants c.in_ok-new-2.field-0.by_index.items id)
            (λ h. (c.in_ok-new-2.ensures.apart id).0 h)
            (build_of c.args.build) (slice_get c.args.build.shapes.now id) (c.mark_reached.ensures.asked.walked id marked);
        structs = λ id h. (c.in_ok-new.ensures.marked id).0 h;
      };
      reached = c.mark_reached.ensures.asked.reached;
    }

-- the visits of the root and of both tables, whose marks end at the root
module _ (cat : Catalogue) (root : ℕ) (has : root < length cat) (start marked : ℕ) (root_visits : marked ≡ start + fields_of_kind (kind_at cat root)) where
  one_table : (n one : ℕ) → n ≡ root → one ≤ marked + field_count (take n cat) → one ≤ start + field_count cat
  one_table n one at h =
      let all = fields_with_earlier cat root has in
      let same = ap (λ (i : ℕ). field_count (take i cat)) at in
      omega (arith, all, same)

  both_tables : (n m one two : ℕ) → n ≡ root → m ≡ root → one ≤ marked + field_count (take n cat) → two ≤ one + field_count (take m cat) → two ≤ start + 2 * field_count cat
  both_tables n m one two at also h k =
      let first = one_table n one at h in
      let all = fields_with_earlier cat root has in
      let same = ap (λ (i : ℕ). field_count (take i cat)) also in
      omega (arith, first, all, same)

pub returns-in_err-new-clause-visits : goal.returns-in_err-new-clause-visits
returns-in_err-new-clause-visits c =
    let one = one_table c.args.build.shapes.now c.args.root c.requires c.args.steps.now.visits _ c.mark_reached.ensures.visits _ c.new.new.steps.visits c.mark_reached.ensures.structs_length c.new.ensures.visits in
    omega (arith, one)

pub returns-in_err-new-2-clause-visits : goal.returns-in_err-new-2-clause-visits
returns-in_err-new-2-clause-visits c =
    both_tables c.args.build.shapes.now c.args.root c.requires c.args.steps.now.visits _ c.mark_reached.ensures.visits _ _ c.new.new.steps.visits c.new-2.new.steps.visits c.mark_reached.ensures.structs_length (c.mark_contents.ensures.all ∙ c.mark_reached.ensures.apart_length)
    c.new.ensures.visits c.new-2.ensures.visits

pub returns-clause-visits : goal.returns-clause-visits
returns-clause-visits c =
    both_tables c.args.build.shapes.now c.args.root c.requires c.args.steps.now.visits _ c.mark_reached.ensures.visits _ _ c.new.new.steps.visits c.new-2.new.steps.visits c.mark_reached.ensures.structs_length (c.mark_contents.ensures.all ∙ c.mark_reached.ensures.apart_length)
    c.new.ensures.visits c.new-2.ensures.visits

pub returns-clause-asked : goal.returns-clause-asked
returns-clause-asked c = λ marks contents holds.
    let walked = c.split_at_mut-walked.result.0.now in
    let but_walked = c.split_at_mut-walked.result.1.now in
    let structs = c.split_at_mut-structs.result.0.now in
    let but_structs = c.split_at_mut-structs.result.1.now in
    let apart = c.split_at_mut-apart.result.0.now in
    let last = c.split_at_mut-apart.result.1.now in
    let all : NoMark (walked ++ but_walked) =
    subst NoMark c.split_at_mut-walked.ensures.value (none_marked _ _ (c.deref_mut.ensures.value ∙ c.in_ok-marks.ensures.items_if_clones_equal (λ b is. is))) in
    let more : NoMark (structs ++ but_structs) = subst NoMark c.split_at_mut-structs.ensures.value (none_behind walked but_walked all) in
    let most : NoMark (apart ++ last) = subst NoMark c.split_at_mut-apart.ensures.value (none_behind structs but_structs more) in
    let none : AskedAmong (marked walked structs apart) marks = record {
      reach = record {
        walked = among-none walked marks.reach.walked (none_before walked but_walked all);
        structs = among-none structs marks.reach.structs (none_before structs but_structs more);
      };
      apart = among-none apart marks.apart (none_before apart last most);
    } in
    let least = c.mark_reached.ensures.least marks none holds.reached in
    let within = c.mark_contents.ensures.least contents (among-none last contents (none_behind apart last most)) (λ id m. holds.by_apart id (least.apart id m)) holds.closed in
    record {
      under_structs = λ id filled. least.reach.structs id ((c.in_ok-new.ensures.marked id).1 filled);
      no_variants = λ id has. no_marks id ((c.in_ok-new.ensures.apart id).1 has);
      under_contents = λ id filled. within id ((c.in_ok-new-2.ensures.marked id).1 filled);
      variants = λ id has. least.apart id ((c.in_ok-new-2.ensures.apart id).1 has);
    }
