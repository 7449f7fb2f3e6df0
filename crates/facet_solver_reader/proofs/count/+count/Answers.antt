-- The counts of values and objects are those that their parts give.
use Rattle.std.proofs.Common.{◌≡◌, ◌∙◌, sym, ap, subst, refl, ℕ, suc, ◌+◌, ◌-◌, ◌<◌, List, [], ◌∷◌}
use Rattle.std.proofs.Common.{map, length, Some, slice_get, zip, IfOk, true, false, arith}
use Rattle.std.proofs.Common.{rules as basic, vec_len, ◌≤◌, get_or, Bool}
use Rattle.std.proofs.lemmas.List.{length-map, length-append, take_all}
use Rattle.std.proofs.lemmas.Option.{slice_get_read, slice_get-get_or, slice_get_within}
use Rattle.std.proofs.lemmas.Slice.Zip.{length-zip}
use Rattle.std.specs.List.{list_any}
use Rattle.facet_solver_reader.specs.declared.count.Count.TheVariants.{None as NoCount, One}
use Rattle.facet_solver_reader.specs.declared.count.Count.TheVariants.{None as NoReading}
use Rattle.facet_solver_reader.specs.Counted.{Counted}
use Rattle.facet_solver_reader.specs.Documents.{Tree, null, list, object, items_view, members_view}
use Rattle.facet_solver_reader.specs.Documents.{view, Member}
use Rattle.facet_solver_reader.specs.Kinds.{is_list, is_null, is_object}
use Rattle.facet_solver_reader.specs.Nodes.{children, members_in, value_of}
use Rattle.facet_solver_reader.specs.Objects.{Reads, HasUnknown, IsUnknown, ReadsAll, ReadsObject}
use Rattle.facet_solver_reader.specs.Objects.{Takes, TakesRest, ignoring, taking}
use Rattle.facet_solver_reader.specs.Parts.{ListId, of_content, of_shape, a_catch_all, a_member}
use Rattle.facet_solver_reader.specs.Reached.{IsRanked, asked_by_kind}
use Rattle.facet_solver_reader.specs.Reading.{IsCount, IsRankedAlternative, reads_content}
use Rattle.facet_solver_reader.specs.Reading.{AreListCounts, IsListCount, IsListed, IsNextList}
use Rattle.facet_solver_reader.specs.Reading.{IsPartCount, fails_at_once, member_view, object_view}
use Rattle.facet_solver_reader.specs.Readings.{ReadsValue, inner}
use Rattle.facet_solver_reader.specs.Rules.{Alternative, End, NamedVariant, Rules, a_list, a_map}
use Rattle.facet_solver_reader.specs.Rules.{a_named_variant, a_tuple, an_object, an_option}
use Rattle.facet_solver_reader.specs.Rules.{an_untagged_variant, as_object, as_shape, as_tuple}
use Rattle.facet_solver_reader.specs.Rules.{no_content}
use Rattle.facet_solver_reader.specs.Tables.{ContentIsServed, EndIsServed, IsServed}
use Rattle.facet_solver_reader.specs.Tables.{ShapeIsServed, rules_at, PartIsBefore, PartIsServed}
use Rattle.facet_solver_reader.specs.Values.{ReadsDirectly, ReadsEnd, ReadsEntry, ReadsJoined}
use Rattle.facet_solver_reader.specs.Values.{ReadsNamedVariant, ReadsNoContent, ReadsPlace}
use Rattle.facet_solver_reader.specs.Values.{ReadsScalar, ReadsTag, is_whole_of}
use Rattle.facet_solver_reader.specs.Views.{alternative_view, content_view, end_view, kind_view}
use Rattle.facet_solver_reader.specs.Views.{list_view, named_view, target_view, catch_all_view}
use Rattle.facet_solver_reader.specs.Views.{part_view, parts_view}
use Rattle.facet_solver_reader.proofs.ByEnd.{count_of_absent, count_of_no_object}
use Rattle.facet_solver_reader.proofs.Contents.{count_of_no_object_content}
use Rattle.facet_solver_reader.proofs.CountedResults.{if_content, if_content_read, if_end, if_last}
use Rattle.facet_solver_reader.proofs.CountedResults.{if_object_content, if_object_end, if_present}
use Rattle.facet_solver_reader.proofs.CountedResults.{if_tuple_content}
use Rattle.facet_solver_reader.proofs.CountingValues.{joined_object, list_end, map_end}
use Rattle.facet_solver_reader.proofs.CountingValues.{no_content_read, no_tuple, none_at}
use Rattle.facet_solver_reader.proofs.CountingValues.{none_at_place, null_read, scalar_count}
use Rattle.facet_solver_reader.proofs.CountingValues.{sound_added, tuple_end}
use Rattle.facet_solver_reader.proofs.Each.{count_of_none, count_up_to_all, count_up_to_at}
use Rattle.facet_solver_reader.proofs.InMemory.{at_index, at_seen, fallback_seen, list_length}
use Rattle.facet_solver_reader.proofs.InMemory.{member_at, member_there, null_seen, object_children}
use Rattle.facet_solver_reader.proofs.InMemory.{object_length, only_child, only_member, scalar_rest}
use Rattle.facet_solver_reader.proofs.Levels.{child_levels}
use Rattle.facet_solver_reader.proofs.NamedVariants.{count_named_all, count_named_more}
use Rattle.facet_solver_reader.proofs.NamedVariants.{count_named_same, count_of_other_members}
use Rattle.facet_solver_reader.proofs.Ranks.{ranked_content, ranked_inside}
use Rattle.facet_solver_reader.proofs.Readings.{count_of_content, count_of_shape}
use Rattle.facet_solver_reader.proofs.Readings.{count_of_tag_value}
use Rattle.facet_solver_reader.proofs.Seen.{member_seen, seen_at, seen_list, seen_members}
use Rattle.facet_solver_reader.proofs.Seen.{seen_no_null, seen_no_object, seen_null, seen_object}
use Rattle.facet_solver_reader.proofs.TableRanks.{content_asked, rank_some, ranked_alternatives}
use Rattle.facet_solver_reader.proofs.TableRanks.{ranked_asked, ranked_shape, ranked_target}
use Rattle.facet_solver_reader.proofs.Tuples.{count_of_entry, count_of_no_key, count_up_to_place_at}
use Rattle.facet_solver_reader.proofs.UntaggedVariants.{count_alone_all, count_alone_more}
use Rattle.facet_solver_reader.proofs.UntaggedVariants.{count_directly, count_fallback_all}
use Rattle.facet_solver_reader.proofs.UntaggedVariants.{count_fallback_more, count_fallback_same}
use Rattle.facet_solver_reader.proofs.UntaggedVariants.{count_of_direct, count_of_none_joined}
use Rattle.std.specs.Option.{unwrap_or}
use Rattle.facet_solver_reader.specs.Branches.{ReadsList, ReadsPart}
use Rattle.facet_solver_reader.specs.Known.{Chooses, IsKnown, named, rest}
use Rattle.facet_solver_reader.proofs.CatchAlls.{count_of_anything, count_of_catch_all}
use Rattle.facet_solver_reader.proofs.CatchAlls.{count_of_no_catch_all, count_of_no_rest}
use Rattle.facet_solver_reader.proofs.CountingLists.{before_parts, child_of_member}
use Rattle.facet_solver_reader.proofs.CountingLists.{count_of_absent_member, count_of_no_choices}
use Rattle.facet_solver_reader.proofs.CountingLists.{found_levels, if_ok_then, member_within}
use Rattle.facet_solver_reader.proofs.CountingLists.{none_by_parts, none_taken, none_where_fails}
use Rattle.facet_solver_reader.proofs.CountingLists.{part_last, part_more, passing_more, taken_more}
use Rattle.facet_solver_reader.proofs.NamedParts.{part_named}
use Rattle.facet_solver_reader.proofs.CountingObjects.{counts_more, itself, known_by_list}
use Rattle.facet_solver_reader.proofs.CountingObjects.{listed_below, seen_read, unknown_by_list}
use Rattle.facet_solver_reader.proofs.Distinct.{distinct_parts}
use Rattle.facet_solver_reader.proofs.Lists.{count_of_list}
use Rattle.facet_solver_reader.proofs.Members.{count_of_having}
use Rattle.facet_solver_reader.proofs.Objects.{count_of_all_taken, count_of_ignoring}
use Rattle.facet_solver_reader.proofs.Objects.{count_of_strict, count_of_takes, count_of_untaken}
use Rattle.facet_solver_reader.proofs.Quantifiers.{all_at}
use Rattle.facet_solver_reader.specs.declared.end.Alternative as code_alternative
use Rattle.facet_solver_reader.specs.declared.part.Target as code_target
use Rattle.facet_solver_reader.specs.declared.part.Part as code_part
use Rattle.facet_solver_reader.specs.declared.nodes.Nodes.{Nodes}
use Rattle.facet_solver_reader.specs.declared.count.object.Object as code_object
use Rattle.facet_solver_reader.specs.declared.tables.Tables.{Tables}
use Rattle.facet_solver_reader.specs.Views as views
use Rattle.facet_solver_reader.proofs.CatchAlls as catch_alls
use Rattle.facet_solver_reader.proofs.count.+count.Goals as goal
use Rattle.facet_solver_reader.proofs.count.+count.Goals.{untagged::count_fallbacks-in-Fallback+in_ok-next}
use Rattle.facet_solver_reader.proofs.count.+count.Goals.{untagged::count_fallbacks-in_default}
use Rattle.facet_solver_reader.proofs.count.+count.Goals.{untagged::count_untagged-in-Object+in_ok-by_parts-in-Object}
use Rattle.facet_solver_reader.proofs.count.+count.Goals.{untagged::count_untagged-in_default}
use Rattle.facet_solver_reader.proofs.count.+count.Goals.{variant::count_contents-then-eq+in_ok-next}
use Rattle.facet_solver_reader.proofs.count.+count.Goals.{variant::count_contents-else-eq}
use Rattle.facet_solver_reader.proofs.count.+count.Goals.{catch_all::count_catch_all-then-not-has_name+in_ok-next+else-is_none}
use Rattle.facet_solver_reader.proofs.count.+count.Goals.{catch_all::count_catch_all-else-not-has_name}
use Rattle.facet_solver_reader.proofs.count.+count.Goals.{object::count_all-else-has_unknown-via-then-has_unknown+else-not-list}
use Rattle.facet_solver_reader.proofs.count.+count.Goals.{object::count_all-else-has_unknown-via-else-has_unknown}
use Rattle.facet_solver_reader.proofs.count.+count.Goals.{object::count_object-then-tables-via-then-tables}
use Rattle.facet_solver_reader.proofs.count.+count.Goals.{object::count_object-then-tables-via-else-tables+then-not-is_none}

pub catch_all::count_catch_all-returns-then-not-object-clause-count :
    goal.catch_all::count_catch_all-returns-then-not-object-clause-count
catch_all::count_catch_all-returns-then-not-object-clause-count t c =
    let rules = rules_at c.args.tables.now in
    count_of_no_catch_all rules (ReadsValue rules)
    (object_view c.args.nodes.now c.args.object.now) (catch_all_view c.args.catch_all.now)
    c.if-not-object.true

pub catch_all::count_catch_all-loop-index-init : goal.catch_all::count_catch_all-loop-index-init
catch_all::count_catch_all-loop-index-init t c =
    let rules = rules_at c.args.tables.now in
    record {
      sound = c.requires.sound;
      counted =
          count_of_no_rest rules (ReadsValue rules)
          (object_view c.args.nodes.now c.args.object.now) (catch_all_view c.args.catch_all.now);
    }

pub catch_all::count_catch_all-has_name-requires : goal.catch_all::count_catch_all-has_name-requires
catch_all::count_catch_all-has_name-requires t c =
    let o = c.requires.object in
    (c.requires.sound.tables.lists o.index c.args.object.now.list.now o.listed).sorted

pub catch_all::count_catch_all-count_taken-requires :
    goal.catch_all::count_catch_all-count_taken-requires
catch_all::count_catch_all-count_taken-requires t c =
    let tb = c.args.tables.now in
    let rules = rules_at tb in
    let o = c.args.object.now in
    let object = object_view c.args.nodes.now o in
    let k = catch_all_view c.args.catch_all.now in
    let ms = members_in (value_of c.args.nodes.now o.node) in
    let items = c.members_of-members.result.now in
    let same = c.members_of-members.ensures ∙ ap members_in c.value.ensures in
    let i = c.loop-index.index in
    let read = c.index-members-index.result in
    let within : i < length items = omega arith in
    let item = get_or items i read in
    let at = subst (λ x. slice_get ms i ≡ Some (member_view x)) c.index-members-index.is
    (seen_read member_view items ms i read same within c.index-members-index.is) in
    let named_so = λ (m : Member) (e : slice_get ms i ≡ Some m).
    let both : Some (member_view item) ≡ Some m = sym at ∙ e in
    let one : member_view item ≡ m = cc in
    sym (ap (λ (m : Member). m.name) one) in (
      omega arith,
      (
        c.loop-index.invariant.sound,
        (
          c.requires.object.inside,
          (named_so, (slice_get_within ms i (member_view item) at, c.requires.served)),
        ),
      ),
    )

pub catch_all::count_catch_all-returns-then-is_none-clause-count :
    goal.catch_all::count_catch_all-returns-then-is_none-clause-count
catch_all::count_catch_all-returns-then-is_none-clause-count t c =
    let tb = c.args.tables.now in
    let rules = rules_at tb in
    let o = c.args.object.now in
    let object = object_view c.args.nodes.now o in
    let k = catch_all_view c.args.catch_all.now in
    let ms = members_in (value_of c.args.nodes.now o.node) in
    let items = c.members_of-members.result.now in
    let same = c.members_of-members.ensures ∙ ap members_in c.value.ensures in
    let i = c.loop-index.index in
    let read = c.index-members-index.result in
    let within : i < length items = omega arith in
    let item = get_or items i read in
    let at = subst (λ x. slice_get ms i ≡ Some (member_view x)) c.index-members-index.is
    (seen_read member_view items ms i read same within c.index-members-index.is) in
    let l = o.list.now in
    let listed : IsListed tb l =
    record { index = c.requires.object.index; listed = c.requires.object.listed } in
    let knows = known_by_list tb c.requires.sound.tables (list_view l.id) l
    (itself tb c.requires.sound.tables l listed) (named item.0.now) c.has_name.result
    c.has_name.ensures in
    let unknown : IsUnknown rules object item.0.now = λ known.
    let is : c.has_name.result ≡ true = knows.1 known in
    let isnt : c.has_name.result ≡ false = c.if-not-has_name.true in absurd (cc) in
    count_of_catch_all rules (ReadsValue rules) object k NoReading c.if-not-object.false
    (none_taken rules (ReadsValue rules) object k ms i (member_view item) at c.loop-index.count
    c.in_ok-next.next (c.is_none.ensures.0 c.if-is_none.true) unknown
    c.loop-index.invariant.counted (c.in_ok-next.ensures.count (member_view item) at))

pub catch_all::count_catch_all-loop-index-preserved :
    goal.catch_all::count_catch_all-loop-index-preserved
catch_all::count_catch_all-loop-index-preserved t c =
    let tb = c.args.tables.now in
    let rules = rules_at tb in
    let o = c.args.object.now in
    let object = object_view c.args.nodes.now o in
    let k = catch_all_view c.args.catch_all.now in
    let ms = members_in (value_of c.args.nodes.now o.node) in
    let items = c.members_of-members.result.now in
    let same = c.members_of-members.ensures ∙ ap members_in c.value.ensures in
    let i = c.loop-index.index in
    let read = c.index-members-index.result in
    let within : i < length items = omega arith in
    let item = get_or items i read in
    let at = subst (λ x. slice_get ms i ≡ Some (member_view x)) c.index-members-index.is
    (seen_read member_view items ms i read same within c.index-members-index.is) in
    let l = o.list.now in
    let listed : IsListed tb l =
    record { index = c.requires.object.index; listed = c.requires.object.listed } in
    let knows = known_by_list tb c.requires.sound.tables (list_view l.id) l
    (itself tb c.requires.sound.tables l listed) (named item.0.now) c.has_name.result
    c.has_name.ensures in
    elim c.if-not-has_name.branch [
      | catch_all::count_catch_all-then-not-has_name+in_ok-next+else-is_none w ↦
          let unknown : IsUnknown rules object item.0.now = λ known.
          let is : c.has_name.result ≡ true = knows.1 known in
          let isnt : c.has_name.result ≡ false = w.if-not-has_name.true in absurd (cc) in
          record {
            sound = rw w.memo-is w.in_ok-next.ensures.sound;
            counted = rw (w.count-is, w.times-count.ensures)
                (taken_more rules (ReadsValue rules) object k ms i (member_view item) at
                c.loop-index.count w.in_ok-next.next unknown c.loop-index.invariant.counted
                (w.in_ok-next.ensures.count (member_view item) at));
          }
      | catch_all::count_catch_all-else-not-has_name w ↦
          record {
            sound = rw w.memo-is c.loop-index.invariant.sound;
            counted = rw w.count-is
                (passing_more rules (ReadsValue rules) object k ms i (member_view item) at
                c.loop-index.count (knows.0 w.if-not-has_name.false)
                c.loop-index.invariant.counted);
          }
    ]

pub catch_all::count_catch_all-returns-clause-count :
    goal.catch_all::count_catch_all-returns-clause-count
catch_all::count_catch_all-returns-clause-count t c =
    let tb = c.args.tables.now in
    let rules = rules_at tb in
    let o = c.args.object.now in
    let object = object_view c.args.nodes.now o in
    let k = catch_all_view c.args.catch_all.now in
    let ms = members_in (value_of c.args.nodes.now o.node) in
    let items = c.members_of-members.result.now in
    let same = c.members_of-members.ensures ∙ ap members_in c.value.ensures in
    let i = c.loop-index.index in
    let past : length ms ≤ i = omega (arith, length-map items member_view, ap length same) in
    count_of_catch_all rules (ReadsValue rules) object k c.loop-index.count c.if-not-object.false
    (subst
    (λ ns.
    Counted (TakesRest rules object (Takes rules (ReadsValue rules) k) ns) c.loop-index.count)
    (take_all i ms past) c.loop-index.invariant.counted)

pub catch_all::count_taken-child-member-requires-clause-index_in_range :
    goal.catch_all::count_taken-child-member-requires-clause-index_in_range
catch_all::count_taken-child-member-requires-clause-index_in_range t c =
    let v : Tree = value_of c.args.nodes.now c.args.node in
    let m = member_within v c.args.index c.requires.1.1.1.1.1.0 in
    slice_get_within (children v) c.args.index m.0.value
    (child_of_member v c.args.index m.0 m.1)

pub catch_all::count_taken-count_shape-requires : goal.catch_all::count_taken-count_shape-requires
catch_all::count_taken-count_shape-requires t c =
    let tb = c.args.tables.now in
    let falls = child_levels c.args.nodes.now c.args.node c.child-member.result c.args.index
    tb.steps c.child-member.ensures.child (omega arith) in
    let served = subst (λ k. PartIsServed tb (a_catch_all (catch_all_view k))) c.in-Map-2.is
    c.requires.1.1.1.1.1.1 in (
      omega arith,
      (
        c.requires.1.1.0,
        (
          c.child-member.ensures.in_range,
          (served, ranked_shape tb c.in-Map-2.value c.requires.1.1.0.tables served),
        ),
      ),
    )

pub catch_all::count_taken-returns-in-Anything-clause-count :
    goal.catch_all::count_taken-returns-in-Anything-clause-count
catch_all::count_taken-returns-in-Anything-clause-count t c =
    λ m e.
    let rules = rules_at c.args.tables.now in
    subst (λ k. Counted (Takes rules (ReadsValue rules) (catch_all_view k) m) One)
    (sym c.in-Anything.is) (count_of_anything rules (ReadsValue rules) m)

pub catch_all::count_taken-returns-in-Map-clause-count :
    goal.catch_all::count_taken-returns-in-Map-clause-count
catch_all::count_taken-returns-in-Map-clause-count t c =
    λ m e.
    let rules = rules_at c.args.tables.now in
    let other = ap (rules.is_key c.in-Map.key) (c.requires.1.1.1.1.0 m e)
    ∙ sym c.is_key.ensures ∙ c.if-not-is_key.true in
    subst (λ k. Counted (Takes rules (ReadsValue rules) (catch_all_view k) m) NoReading)
    (sym c.in-Map.is)
    (catch_alls.count_of_no_key rules (ReadsValue rules) m c.in-Map.key c.in-Map.field-1 other)

pub catch_all::count_taken-returns-in-Map-2-clause-count :
    goal.catch_all::count_taken-returns-in-Map-2-clause-count
catch_all::count_taken-returns-in-Map-2-clause-count t c =
    λ m e.
    let rules = rules_at c.args.tables.now in
    let v : Tree = value_of c.args.nodes.now c.args.node in
    let w : Tree = value_of c.args.nodes.now c.child-member.result in
    let both : Some w ≡ Some m.value =
    sym c.child-member.ensures.child ∙ child_of_member v c.args.index m e in
    let one : w ≡ m.value = cc in
    let twice = sym c.in-Map.is ∙ c.in-Map-2.is in
    let key : c.in-Map.key ≡ c.in-Map-2.field-0 = cc (twice) in
    let is = ap (rules.is_key c.in-Map-2.field-0) (c.requires.1.1.1.1.0 m e)
    ∙ (ap (λ k. rules.is_key k c.args.name.now) (sym key)
    ∙ sym c.is_key.ensures ∙ c.if-not-is_key.false) in
    if_ok_then (IsCount c.args.tables.now c.args.nodes.now c.child-member.result
    (of_shape c.in-Map-2.value))
    (Counted (Takes rules (ReadsValue rules) (catch_all_view c.args.catch_all.now) m))
    c.count_shape.result
    (λ n h.
    subst (λ k. Counted (Takes rules (ReadsValue rules) (catch_all_view k) m) n)
    (sym c.in-Map-2.is)
    (catch_alls.count_of_entry rules (ReadsValue rules) m c.in-Map-2.field-0 c.in-Map-2.value n is
    (subst (λ x. Counted (ReadsValue rules (of_shape c.in-Map-2.value) x) n) one h)))
    c.count_shape.ensures.count

pub list::count_list-returns-then-some_fails_at_once-clause-count :
    goal.list::count_list-returns-then-some_fails_at_once-clause-count
list::count_list-returns-then-some_fails_at_once-clause-count t c =
    let tb = c.args.tables.now in
    let rules = rules_at tb in
    let object = object_view c.args.nodes.now c.args.object.now in
    let l = c.args.list.now in
    let ps = parts_view l.parts.items in
    let next = c.requires.next in
    let is = c.requires.sound.tables.lists next.index l next.listed in
    let distinct = distinct_parts rules.lists (list_view l.id) ps is.same is.chosen is.distinct in
    let fails : code_part.Part → Bool = λ p. fails_at_once object.members (part_view p) in
    let some : list_any fails l.parts.items ≡ true =
    sym (ap (list_any fails) c.deref.ensures.value) ∙ sym c.some_fails_at_once.ensures
    ∙ c.if-some_fails_at_once.true in
    count_of_list rules (ReadsValue rules) object (list_view l.id) ps NoReading is.same
    (none_where_fails rules object l.parts.items some distinct)

pub list::count_list-loop-part-init : goal.list::count_list-loop-part-init
list::count_list-loop-part-init t c =
    record { sound = c.requires.sound; counted = λ rest h. h }

pub list::count_list-count_part-requires : goal.list::count_list-count_part-requires
list::count_list-count_part-requires t c =
    let tb = c.args.tables.now in
    let rules = rules_at tb in
    let object = object_view c.args.nodes.now c.args.object.now in
    let l = c.args.list.now in
    let ps = parts_view l.parts.items in
    let next = c.requires.next in
    let is = c.requires.sound.tables.lists next.index l next.listed in
    let distinct = distinct_parts rules.lists (list_view l.id) ps is.same is.chosen is.distinct in
    let i = c.loop-part.part-index in
    let item = c.part-item.result in
    let at = seen_read part_view c.deref-part-items.result.now ps i item
    (ap (map part_view) c.deref-part-items.ensures.value) c.loop-part-test.true c.part-item.is in
    let before = before_parts tb c.args.nodes.now c.args.object.now (length c.args.counts.now) l
    c.requires.sound.tables c.requires.object next in (
      omega arith,
      (
        c.loop-part.invariant.sound,
        (
          c.requires.object,
          (
            c.requires.counts,
            (
              all_at (PartIsServed tb) ps i (part_view item) is.served at,
              (
                part_named tb c.requires.sound.tables l
                    (record { index = next.index; listed = next.listed })
                    c.deref-part-items.result.now c.deref-part-items.ensures.value i item
                    c.loop-part-test.true c.part-item.is,
                all_at
                    (PartIsBefore tb c.args.object.now.list.now.below.items
                    (length c.args.counts.now))
                    ps i (part_view item) before at,
              ),
            ),
          ),
        ),
      ),
    )

pub list::count_list-returns-then-is_none-clause-count :
    goal.list::count_list-returns-then-is_none-clause-count
list::count_list-returns-then-is_none-clause-count t c =
    let tb = c.args.tables.now in
    let rules = rules_at tb in
    let object = object_view c.args.nodes.now c.args.object.now in
    let l = c.args.list.now in
    let ps = parts_view l.parts.items in
    let next = c.requires.next in
    let is = c.requires.sound.tables.lists next.index l next.listed in
    let distinct = distinct_parts rules.lists (list_view l.id) ps is.same is.chosen is.distinct in
    let i = c.loop-part.part-index in
    let item = c.part-item.result in
    let at = seen_read part_view c.deref-part-items.result.now ps i item
    (ap (map part_view) c.deref-part-items.ensures.value) c.loop-part-test.true c.part-item.is in
    let none = subst (Counted (ReadsPart rules (ReadsValue rules) object (part_view item)))
    (c.is_none.ensures.0 c.if-is_none.true) c.in_ok-next.ensures.count in
    count_of_list rules (ReadsValue rules) object (list_view l.id) ps NoReading is.same
    (none_by_parts rules (ReadsValue rules) object ps i (part_view item) distinct at none)

pub list::count_list-loop-part-preserved : goal.list::count_list-loop-part-preserved
list::count_list-loop-part-preserved t c =
    let tb = c.args.tables.now in
    let rules = rules_at tb in
    let object = object_view c.args.nodes.now c.args.object.now in
    let l = c.args.list.now in
    let ps = parts_view l.parts.items in
    let next = c.requires.next in
    let is = c.requires.sound.tables.lists next.index l next.listed in
    let distinct = distinct_parts rules.lists (list_view l.id) ps is.same is.chosen is.distinct in
    let i = c.loop-part.part-index in
    let item = c.part-item.result in
    let at = seen_read part_view c.deref-part-items.result.now ps i item
    (ap (map part_view) c.deref-part-items.ensures.value) c.loop-part-test.true c.part-item.is in
    record {
      sound = c.count_part.ensures.sound;
      counted = rw c.times-count.ensures
          (part_more rules (ReadsValue rules) object ps i (part_view item) c.loop-part.count
          c.in_ok-next.next distinct at c.in_ok-next.ensures.count
          c.loop-part.invariant.counted);
    }

pub list::count_list-returns-clause-count : goal.list::count_list-returns-clause-count
list::count_list-returns-clause-count t c =
    let tb = c.args.tables.now in
    let rules = rules_at tb in
    let object = object_view c.args.nodes.now c.args.object.now in
    let l = c.args.list.now in
    let ps = parts_view l.parts.items in
    let next = c.requires.next in
    let is = c.requires.sound.tables.lists next.index l next.listed in
    let distinct = distinct_parts rules.lists (list_view l.id) ps is.same is.chosen is.distinct in
    let past : length ps ≤ c.loop-part.part-index =
    omega (
      arith,
      length-map l.parts.items part_view,
      ap length c.deref-part-items.ensures.value,
    ) in
    count_of_list rules (ReadsValue rules) object (list_view l.id) ps c.loop-part.count is.same
    (part_last rules (ReadsValue rules) object ps c.loop-part.part-index c.loop-part.count past
    c.loop-part.invariant.counted)

pub list::count_member-count_target-requires : goal.list::count_member-count_target-requires
list::count_member-count_target-requires t c =
    let tb = c.args.tables.now in
    let v : Tree = value_of c.args.nodes.now c.args.object.now.node in
    let w : Tree = value_of c.args.nodes.now c.in-Some.value in
    let falls = found_levels v c.args.member.now.name.now w tb.steps c.in-Some.ensures.1
    (omega arith) in (
      omega arith,
      (
        c.requires.sound,
        (
          c.in-Some.ensures.0,
          (
            c.requires.served,
            ranked_target tb (target_view c.args.member.now.target) c.requires.sound.tables
                c.requires.served,
          ),
        ),
      ),
    )

pub list::count_member-returns-in-Some-clause-count :
    goal.list::count_member-returns-in-Some-clause-count
list::count_member-returns-in-Some-clause-count t c =
    let tb = c.args.tables.now in
    let rules = rules_at tb in
    let m = views.member_view c.args.member.now in
    if_ok_then (IsCount tb c.args.nodes.now c.in-Some.value m.target)
    (IsPartCount tb c.args.nodes.now c.args.object.now (a_member m)) c.count_target.result
    (λ n h.
    count_of_having rules (ReadsValue rules)
    (object_view c.args.nodes.now c.args.object.now) m
    (value_of c.args.nodes.now c.in-Some.value) n c.in-Some.ensures.1 h)
    c.count_target.ensures.count

pub list::count_member-returns-in-None-clause-count :
    goal.list::count_member-returns-in-None-clause-count
list::count_member-returns-in-None-clause-count t c =
    let rules = rules_at c.args.tables.now in
    count_of_absent_member rules (ReadsValue rules)
    (object_view c.args.nodes.now c.args.object.now) (views.member_view c.args.member.now)
    c.from.result c.in-None.ensures c.from.ensures

pub list::count_part-returns-in-Member-clause-count :
    goal.list::count_part-returns-in-Member-clause-count
list::count_part-returns-in-Member-clause-count t c =
    subst
    (λ p.
    IfOk c.count_member.result
    (IsPartCount c.args.tables.now c.args.nodes.now c.args.object.now (part_view p)))
    (sym c.in-Member.is) c.count_member.ensures.count

pub list::count_part-returns-in-Selection-clause-count :
    goal.list::count_part-returns-in-Selection-clause-count
list::count_part-returns-in-Selection-clause-count t c =
    subst
    (λ p.
    IsPartCount c.args.tables.now c.args.nodes.now c.args.object.now (part_view p)
    c.count_selection.result)
    (sym c.in-Selection.is) c.count_selection.ensures

pub list::count_part-returns-in-CatchAll-clause-count :
    goal.list::count_part-returns-in-CatchAll-clause-count
list::count_part-returns-in-CatchAll-clause-count t c =
    subst
    (λ p.
    IfOk c.count_catch_all.result
    (IsPartCount c.args.tables.now c.args.nodes.now c.args.object.now (part_view p)))
    (sym c.in-CatchAll.is) c.count_catch_all.ensures.count

pub object::count_all-returns-then-not-list-clause-count :
    goal.object::count_all-returns-then-not-list-clause-count
object::count_all-returns-then-not-list-clause-count t c =
    let tb = c.args.tables.now in
    let rules = rules_at tb in
    let tables = c.requires.sound.tables in
    let l = c.args.list.now in
    let id = list_view l.id in
    let ms = members_in (value_of c.args.nodes.now c.args.node) in
    let listed = c.requires.listed in
    let knows_rest = known_by_list tb tables id l (itself tb tables l listed) rest l.takes_rest
    refl in
    let unknown = unknown_by_list tb tables l listed (taking ms id) c.args.has_unknown refl
    c.requires.unknown in
    count_of_untaken rules (ReadsValue rules) ms id (unknown.0 c.if-has_unknown.true) (λ k.
    let is : l.takes_rest ≡ true = knows_rest.1 k in
    let isnt : l.takes_rest ≡ false = c.if-not-list.true in
    absurd (cc))

pub object::count_all-count_members-requires : goal.object::count_all-count_members-requires
object::count_all-count_members-requires t c =
    let listed = c.requires.listed in (
      omega arith,
      (
        c.requires.sound,
        record {
          inside = c.requires.inside;
          index = listed.index;
          listed = listed.listed;
          unknown =
              unknown_by_list c.args.tables.now c.requires.sound.tables c.args.list.now listed
              (taking (members_in (value_of c.args.nodes.now c.args.node))
              (list_view c.args.list.now.id))
              c.args.has_unknown refl c.requires.unknown;
          filter = c.filter_of-filter.ensures;
        },
      ),
    )

pub object::count_all-returns-clause-count : goal.object::count_all-returns-clause-count
object::count_all-returns-clause-count t c =
    let tb = c.args.tables.now in
    let rules = rules_at tb in
    let tables = c.requires.sound.tables in
    let l = c.args.list.now in
    let id = list_view l.id in
    let ms = members_in (value_of c.args.nodes.now c.args.node) in
    let listed = c.requires.listed in
    let knows_rest = known_by_list tb tables id l (itself tb tables l listed) rest l.takes_rest
    refl in
    let unknown = unknown_by_list tb tables l listed (taking ms id) c.args.has_unknown refl
    c.requires.unknown in
    let known : HasUnknown rules (taking ms id) → IsKnown (Chooses rules.lists id) rest = λ u.
    elim c.else-has_unknown.branch [
      | object::count_all-else-has_unknown-via-then-has_unknown+else-not-list w ↦
          knows_rest.0 w.if-not-list.false
      | object::count_all-else-has_unknown-via-else-has_unknown w ↦
          let is : c.args.has_unknown ≡ true = unknown.1 u in
          let isnt : c.args.has_unknown ≡ false = w.if-has_unknown.false in
          absurd (cc)
    ] in
    if_ok_then (Counted (ReadsList rules (ReadsValue rules) (taking ms id) id))
    (Counted (ReadsAll rules (ReadsValue rules) ms id)) c.count_members.result
    (λ n h. count_of_takes rules (ReadsValue rules) ms id n known h)
    c.count_members.ensures.count

pub object::list_counts-index-list-requires : goal.object::list_counts-index-list-requires
object::list_counts-index-list-requires t c =
    let tb = c.args.tables.now in
    let o = c.args.object.now in
    let position = c.loop-index.index-index in
    let xs = c.deref-index-items.result.now in
    let b = listed_below tb c.args.nodes.now o c.requires.object c.requires.sound.tables position
    xs c.deref-index-items.ensures.value c.loop-index-test.true in
    let index = get_or xs position 0 in
    let within = slice_get_within tb.lists.items index b.0 b.2 in
    omega (arith, within)

pub object::list_counts-count_list-requires : goal.object::list_counts-count_list-requires
object::list_counts-count_list-requires t c =
    let tb = c.args.tables.now in
    let o = c.args.object.now in
    let position = c.loop-index.index-index in
    let xs = c.deref-index-items.result.now in
    let b = listed_below tb c.args.nodes.now o c.requires.object c.requires.sound.tables position
    xs c.deref-index-items.ensures.value c.loop-index-test.true in
    let index = get_or xs position 0 in
    let list = c.index-list.result.now in
    let at = slice_get_read tb.lists.items (length tb.lists.items) index list refl
    (slice_get_within tb.lists.items index b.0 b.2) c.index-list.ensures in
    let done : length c.loop-index.counts.items ≡ position = c.loop-index.invariant.so_far in
    let here = subst (λ p. slice_get o.list.now.below.items p ≡ Some index) (sym done) b.1 in
    let same = sym c.deref.ensures.value in (
      omega arith,
      (
        c.loop-index.invariant.sound,
        (
          c.requires.object,
          (
            subst (AreListCounts tb c.args.nodes.now o) same c.loop-index.invariant.counts,
            subst (λ ns. IsNextList tb o (length ns) list) same
                (record { index = index; is_next = here; listed = at }),
          ),
        ),
      ),
    )

pub object::list_counts-loop-index-preserved-then-fails_at_first :
    goal.object::list_counts-loop-index-preserved-then-fails_at_first
object::list_counts-loop-index-preserved-then-fails_at_first t c =
    let tb = c.args.tables.now in
    let o = c.args.object.now in
    let rules = rules_at tb in
    let object = object_view c.args.nodes.now o in
    let tables = c.requires.sound.tables in
    let position = c.loop-index.index-index in
    let xs = c.deref-index-items.result.now in
    let b = listed_below tb c.args.nodes.now o c.requires.object tables position xs
    c.deref-index-items.ensures.value c.loop-index-test.true in
    let index = get_or xs position 0 in
    let l = c.index-list.result.now in
    let at = slice_get_read tb.lists.items (length tb.lists.items) index l refl
    (slice_get_within tb.lists.items index b.0 b.2) c.index-list.ensures in
    let ps = parts_view l.parts.items in
    let is = tables.lists index l at in
    let distinct = distinct_parts rules.lists (list_view l.id) ps is.same is.chosen is.distinct in
    let some = c.fails_at_first.ensures.fails c.if-fails_at_first.true in
    let none = count_of_list rules (ReadsValue rules) object (list_view l.id) ps NoReading is.same
    (none_where_fails rules object l.parts.items some distinct) in
    let done : length c.loop-index.counts.items ≡ position = c.loop-index.invariant.so_far in
    let here = subst (λ p. slice_get o.list.now.below.items p ≡ Some index) (sym done) b.1 in
    let counts = c.loop-index.counts.items in
    let more = counts_more tb c.args.nodes.now o c.requires.object counts NoReading index l
    c.loop-index.invariant.counts here at none in
    let items = c.in_ok-push.ensures.items in
    record {
      sound = c.loop-index.invariant.sound;
      counts = subst (AreListCounts tb c.args.nodes.now o) (sym items) more;
      so_far = omega (arith, ap length items, length-append counts (NoReading ∷ []));
      last = c.fails_at_first.ensures.last;
    }

pub object::list_counts-loop-index-preserved : goal.object::list_counts-loop-index-preserved
object::list_counts-loop-index-preserved t c =
    let tb = c.args.tables.now in
    let o = c.args.object.now in
    let position = c.loop-index.index-index in
    let xs = c.deref-index-items.result.now in
    let b = listed_below tb c.args.nodes.now o c.requires.object c.requires.sound.tables position
    xs c.deref-index-items.ensures.value c.loop-index-test.true in
    let index = get_or xs position 0 in
    let list = c.index-list.result.now in
    let at = slice_get_read tb.lists.items (length tb.lists.items) index list refl
    (slice_get_within tb.lists.items index b.0 b.2) c.index-list.ensures in
    let done : length c.loop-index.counts.items ≡ position = c.loop-index.invariant.so_far in
    let here = subst (λ p. slice_get o.list.now.below.items p ≡ Some index) (sym done) b.1 in
    let counts = c.loop-index.counts.items in
    let more = counts_more tb c.args.nodes.now o c.requires.object counts c.in_ok-count.count
    index list c.loop-index.invariant.counts here at c.in_ok-count.ensures.count in
    let items = c.in_ok-push-2.ensures.items in
    record {
      sound = c.count_list.ensures.sound;
      counts = subst (AreListCounts tb c.args.nodes.now o) (sym items) more;
      so_far = omega (arith, ap length items, length-append counts (c.in_ok-count.count ∷ []));
      last = c.fails_at_first.ensures.last;
    }

-- the counts of no lists
no_counts : (tb : Tables) (nodes : Nodes) (o : code_object.Object) → AreListCounts tb nodes o []
no_counts tb nodes o =
    record {
      are = λ position index count l e below there.
          let within : position < 0 = slice_get_within [] position count e in absurd (omega arith);
    }

pub object::count_members-count_list-requires : goal.object::count_members-count_list-requires
object::count_members-count_list-requires t c =
    let o = c.args.object.now in
    let below = o.list.now.below.items in
    let h = c.requires.object in
    let last = (c.requires.sound.tables.lists h.index o.list.now h.listed).last in
    let one : length below ≡ 1 = omega (arith, c.len.ensures, c.if-len-eq1.true) in
    let first : last.0 ≡ 0 = omega (arith, last.1, one) in
    let here = subst (λ q. slice_get below q ≡ Some h.index) first last.2 in (
      omega arith,
      (
        c.requires.sound,
        (
          c.requires.object,
          (
            no_counts c.args.tables.now c.args.nodes.now o,
            record { index = h.index; is_next = here; listed = h.listed },
          ),
        ),
      ),
    )

pub object::count_members-returns-clause-count : goal.object::count_members-returns-clause-count
object::count_members-returns-clause-count t c =
    let o = c.args.object.now in
    let items = c.in_ok-counts.counts.items in
    let h = c.requires.object in
    let last = (c.requires.sound.tables.lists h.index o.list.now h.listed).last in
    let many : length items ≡ last.0 + 1 = omega (arith, last.1, c.in_ok-counts.ensures.all) in
    let some : 0 < vec_len c.in_ok-counts.counts = omega (arith, many) in
    let place : vec_len c.in_ok-counts.counts - 1 ≡ last.0 = omega (arith, many) in
    let within : last.0 < length items = omega (arith, many) in
    let is : c.unwrap_or.result ≡ get_or items last.0 NoReading =
    c.unwrap_or.ensures
    ∙ ap (λ r. unwrap_or r NoReading) (c.pop.ensures.value NoReading some)
    ∙ ap (λ i. get_or items i NoReading) place in
    subst (IsListCount c.args.tables.now c.args.nodes.now o o.list.now) (sym is)
    (c.in_ok-counts.ensures.counts.are last.0 h.index (get_or items last.0 NoReading) o.list.now
    (slice_get-get_or items last.0 NoReading within) last.2 h.listed)

pub object::count_object-returns-in_default-clause-count :
    goal.object::count_object-returns-in_default-clause-count
object::count_object-returns-in_default-clause-count t c =
    let rules = rules_at c.args.tables.now in
    count_of_no_choices rules (ReadsValue rules) (list_view c.args.id)
    (members_in (value_of c.args.nodes.now c.args.node)) c.in_default.ensures

pub object::count_object-has_unknown-has_unknown-requires-clause-sorted :
    goal.object::count_object-has_unknown-has_unknown-requires-clause-sorted
object::count_object-has_unknown-has_unknown-requires-clause-sorted t c =
    let of = c.in-Some.ensures in
    (c.requires.sound.tables.lists of.index c.in-Some.list.now of.listed).sorted

pub object::count_object-returns-then-tables-clause-count :
    goal.object::count_object-returns-then-tables-clause-count
object::count_object-returns-then-tables-clause-count t c =
    let tb = c.args.tables.now in
    let rules = rules_at tb in
    let ms = members_in (value_of c.args.nodes.now c.args.node) in
    let l = c.in-Some.list.now in
    let of = c.in-Some.ensures in
    let n = c.in_ok-count.count in
    let counted : Counted (ReadsObject rules (ReadsValue rules) (list_view l.id) ms) n =
    elim c.then-tables.branch [
      | object::count_object-then-tables-via-then-tables w ↦
          count_of_strict rules (ReadsValue rules) ms (list_view l.id) n w.if-tables.true
          c.in_ok-count.ensures.count
      | object::count_object-then-tables-via-else-tables+then-not-is_none w ↦
          count_of_all_taken rules (ReadsValue rules) ms (list_view l.id) n
          (λ e.
          let is : w.is_none.result ≡ true = w.is_none.ensures.1 e in
          let isnt : w.is_none.result ≡ false = w.if-not-is_none.true in
          absurd (cc))
          c.in_ok-count.ensures.count
    ] in
    subst (λ id. Counted (ReadsObject rules (ReadsValue rules) id ms) n) of.same counted

pub object::count_object-count_members-requires : goal.object::count_object-count_members-requires
object::count_object-count_members-requires t c =
    let tb = c.args.tables.now in
    let rules = rules_at tb in
    let ms = members_in (value_of c.args.nodes.now c.args.node) in
    let l = c.in-Some.list.now in
    let of = c.in-Some.ensures in
    let listed : IsListed tb l = record { index = of.index; listed = of.listed } in (
      omega arith,
      (
        c.in_ok-count.ensures.sound,
        record {
          inside = c.requires.inside;
          index = of.index;
          listed = of.listed;
          unknown =
              unknown_by_list tb c.requires.sound.tables l listed (ignoring ms (list_view l.id))
              c.has_unknown-has_unknown.result refl c.has_unknown-has_unknown.ensures;
          filter = c.filter_of-filter.ensures;
        },
      ),
    )

pub object::count_object-returns-clause-count : goal.object::count_object-returns-clause-count
object::count_object-returns-clause-count t c =
    let tb = c.args.tables.now in
    let rules = rules_at tb in
    let ms = members_in (value_of c.args.nodes.now c.args.node) in
    let l = c.in-Some.list.now in
    let of = c.in-Some.ensures in
    let id = list_view l.id in
    if_ok_then (Counted (ReadsList rules (ReadsValue rules) (ignoring ms id) id))
    (Counted (ReadsObject rules (ReadsValue rules) (list_view c.args.id) ms))
    c.count_members.result
    (λ n h.
    subst (λ i. Counted (ReadsObject rules (ReadsValue rules) i ms) n) of.same
    (count_of_ignoring rules (ReadsValue rules) ms id c.in_ok-count.count n c.if-tables.false
    (c.is_none.ensures.0 c.if-not-is_none.false) c.in_ok-count.ensures.count h))
    c.count_members.ensures.count

-- ---- a value as the content of a variant, found once

pub content::count_content-count_by_content-requires :
    goal.content::count_content-count_by_content-requires
content::count_content-count_by_content-requires t c =
    (omega arith, (c.requires.sound, (c.requires.inside, (c.requires.served, c.requires.ranked))))

pub content::count_content-returns-clause-sound : goal.content::count_content-returns-clause-sound
content::count_content-returns-clause-sound t c =
    sound_added c.args.tables.now c.args.nodes.now c.count_by_content.new.memo.entries.items
    c.put.new.self.entries.items c.args.node (of_content c.args.shape c.args.variant)
    c.in_ok-count.count c.in_ok-count.ensures.sound c.in_ok-put.ensures.ok
    c.in_ok-count.ensures.count

-- ---- the content of a variant, by its form

pub content::count_by_content-returns-in-None-clause-count :
    goal.content::count_by_content-returns-in-None-clause-count
content::count_by_content-returns-in-None-clause-count t c =
    let v : Tree = value_of c.args.nodes.now c.args.node in
    let rules : Rules = rules_at c.args.tables.now in
    let is : rules.content_of c.args.shape c.args.variant ≡ no_content =
    sym c.in_ok-content.ensures ∙ ap content_view c.in-None.is in
    count_of_content rules c.args.steps c.args.shape c.args.variant no_content v
    c.count_no_content.result c.requires.ranked is
    (subst (λ u. Counted (ReadsNoContent u) c.count_no_content.result) c.value.ensures
    c.count_no_content.ensures)

pub content::count_by_content-count_shape-requires : goal.content::count_by_content-count_shape-requires
content::count_by_content-count_shape-requires t c =
    let rules : Rules = rules_at c.args.tables.now in
    let is : rules.content_of c.args.shape c.args.variant ≡ as_shape c.in-Shape.inside =
    sym c.in_ok-content.ensures ∙ ap content_view c.in-Shape.is in
    let some : 0 < c.args.steps =
    rank_some rules c.args.steps (of_content c.args.shape c.args.variant) c.requires.ranked in
    let more : c.args.steps ≡ suc (c.args.steps - 1) = omega arith in (
      omega arith,
      (
        c.requires.sound,
        (
          c.requires.inside,
          (
            subst (ContentIsServed c.args.tables.now) is c.requires.served,
            ranked_content rules (c.args.steps - 1) c.args.shape c.args.variant c.in-Shape.inside
                (subst (λ n. IsRanked n (rules_at c.args.tables.now)
                (of_content c.args.shape c.args.variant)) more c.requires.ranked) is,
          ),
        ),
      ),
    )

pub content::count_by_content-returns-in-Shape-clause-count :
    goal.content::count_by_content-returns-in-Shape-clause-count
content::count_by_content-returns-in-Shape-clause-count t c =
    let is : (rules_at c.args.tables.now).content_of c.args.shape c.args.variant
    ≡ as_shape c.in-Shape.inside =
    sym c.in_ok-content.ensures ∙ ap content_view c.in-Shape.is in
    if_content c.args.tables.now c.args.nodes.now c.args.node c.args.shape c.args.variant
    (as_shape c.in-Shape.inside) c.args.steps c.count_shape.result c.requires.ranked is
    c.count_shape.ensures.count

pub content::count_by_content-count_tuple-requires : goal.content::count_by_content-count_tuple-requires
content::count_by_content-count_tuple-requires t c =
    let is : (rules_at c.args.tables.now).content_of c.args.shape c.args.variant
    ≡ as_tuple c.deref.result.now =
    sym c.in_ok-content.ensures ∙ (ap content_view c.in-Tuple.is
    ∙ ap as_tuple (sym c.deref.ensures.value)) in (
      omega arith,
      (
        c.requires.sound,
        (
          c.requires.inside,
          subst (ContentIsServed c.args.tables.now) is c.requires.served,
        ),
      ),
    )

pub content::count_by_content-returns-in-Tuple-clause-count :
    goal.content::count_by_content-returns-in-Tuple-clause-count
content::count_by_content-returns-in-Tuple-clause-count t c =
    let rules : Rules = rules_at c.args.tables.now in
    let is : rules.content_of c.args.shape c.args.variant ≡ as_tuple c.deref.result.now =
    sym c.in_ok-content.ensures ∙ (ap content_view c.in-Tuple.is
    ∙ ap as_tuple (sym c.deref.ensures.value)) in
    if_content c.args.tables.now c.args.nodes.now c.args.node c.args.shape c.args.variant
    (as_tuple c.deref.result.now) c.args.steps c.count_tuple.result c.requires.ranked is
    (if_tuple_content rules (inner rules) c.deref.result.now
    (value_of c.args.nodes.now c.args.node) c.count_tuple.result c.count_tuple.ensures.count)

pub content::count_by_content-returns-in-Object-value-clause-count :
    goal.content::count_by_content-returns-in-Object-value-clause-count
content::count_by_content-returns-in-Object-value-clause-count t c =
    let v : Tree = value_of c.args.nodes.now c.args.node in
    let rules : Rules = rules_at c.args.tables.now in
    let content_is : rules.content_of c.args.shape c.args.variant
    ≡ as_object (list_view c.in-Object.list) =
    sym c.in_ok-content.ensures ∙ ap content_view c.in-Object.is in
    let is : is_object v ≡ true =
    ap is_object (sym c.value-in-Object.ensures ∙ (ap view c.in-Object-value.is
    ∙ seen_object c.in-Object-value.field-0)) in
    if_content c.args.tables.now c.args.nodes.now c.args.node c.args.shape c.args.variant
    (as_object (list_view c.in-Object.list)) c.args.steps c.count_object.result
    c.requires.ranked content_is
    (if_object_content rules (inner rules) (list_view c.in-Object.list) v c.count_object.result is
    c.count_object.ensures.count)

pub content::count_by_content-returns-clause-count : goal.content::count_by_content-returns-clause-count
content::count_by_content-returns-clause-count t c =
    let v : Tree = value_of c.args.nodes.now c.args.node in
    let rules : Rules = rules_at c.args.tables.now in
    let content_is : rules.content_of c.args.shape c.args.variant
    ≡ as_object (list_view c.in-Object.list) =
    sym c.in_ok-content.ensures ∙ ap content_view c.in-Object.is in
    let is_not : is_object v ≡ false =
    ap is_object (sym c.value-in-Object.ensures)
    ∙ seen_no_object c.value-in-Object.result.now c.in_default.not-Object in
    count_of_content rules c.args.steps c.args.shape c.args.variant
    (as_object (list_view c.in-Object.list)) v NoCount c.requires.ranked content_is
    (count_of_no_object_content rules (inner rules) (list_view c.in-Object.list) v is_not)

-- ---- the entries of a map, one after another

pub each::count_entries-loop-index-init : goal.each::count_entries-loop-index-init
each::count_entries-loop-index-init t c = record {
  sound = c.requires.sound;
  counted = count_of_none (ReadsEntry ((rules_at c.args.tables.now).is_key c.args.key)
      (ReadsValue (rules_at c.args.tables.now)) (of_shape c.args.value));
}

pub each::count_entries-returns-then-not-is_key-clause-count :
    goal.each::count_entries-returns-then-not-is_key-clause-count
each::count_entries-returns-then-not-is_key-clause-count t c =
    let v : Tree = value_of c.args.nodes.now c.args.node in
    let rules : Rules = rules_at c.args.tables.now in
    let tree : v ≡ object (members_view c.in-Object.members.items) =
    sym c.value.ensures ∙ (ap view c.in-Object.is ∙ seen_object c.in-Object.members) in
    let there : slice_get c.in-Object.members.items c.loop-index.index ≡ Some c.index.result.now =
    slice_get_read c.in-Object.members.items (length c.in-Object.members.items) c.loop-index.index
    c.index.result.now refl (omega arith) c.index.ensures in
    let no_key : rules.is_key c.args.key c.index.result.now.0.now ≡ false =
    sym c.is_key.ensures ∙ c.if-not-is_key.true in
    map_end rules (inner rules) c.args.key c.args.value v NoCount (ap is_object tree)
    (none_at (ReadsEntry (rules.is_key c.args.key) (ReadsValue rules) (of_shape c.args.value))
    (members_in v) c.loop-index.index (member_seen c.index.result.now) c.loop-index.count NoCount
    (member_there v c.in-Object.members.items c.loop-index.index c.index.result.now tree there)
    refl c.loop-index.invariant.counted
    (count_of_no_key (rules.is_key c.args.key) (ReadsValue rules) (of_shape c.args.value)
    (member_seen c.index.result.now) no_key))

pub each::count_entries-child-member-requires-clause-index_in_range :
    goal.each::count_entries-child-member-requires-clause-index_in_range
each::count_entries-child-member-requires-clause-index_in_range t c =
    let v : Tree = value_of c.args.nodes.now c.args.node in
    let tree : v ≡ object (members_view c.in-Object.members.items) =
    sym c.value.ensures ∙ (ap view c.in-Object.is ∙ seen_object c.in-Object.members) in
    omega (
      arith,
      object_children v (ap is_object tree),
      object_length v c.in-Object.members.items tree,
    )

pub each::count_entries-count_shape-requires : goal.each::count_entries-count_shape-requires
each::count_entries-count_shape-requires t c =
    let falls = child_levels c.args.nodes.now c.args.node c.child-member.result c.loop-index.index
    c.args.tables.now.steps c.child-member.ensures.child (omega arith) in (
      omega arith,
      (
        c.loop-index.invariant.sound,
        (
          c.child-member.ensures.in_range,
          (
            c.requires.served,
            ranked_shape c.args.tables.now c.args.value c.requires.sound.tables
                c.requires.served,
          ),
        ),
      ),
    )

pub each::count_entries-returns-then-is_none-clause-count :
    goal.each::count_entries-returns-then-is_none-clause-count
each::count_entries-returns-then-is_none-clause-count t c =
    let v : Tree = value_of c.args.nodes.now c.args.node in
    let w : Tree = value_of c.args.nodes.now c.child-member.result in
    let rules : Rules = rules_at c.args.tables.now in
    let tree : v ≡ object (members_view c.in-Object.members.items) =
    sym c.value.ensures ∙ (ap view c.in-Object.is ∙ seen_object c.in-Object.members) in
    let there : slice_get c.in-Object.members.items c.loop-index.index ≡ Some c.index.result.now =
    slice_get_read c.in-Object.members.items (length c.in-Object.members.items) c.loop-index.index
    c.index.result.now refl (omega arith) c.index.ensures in
    let key : rules.is_key c.args.key c.index.result.now.0.now ≡ true =
    sym c.is_key.ensures ∙ c.if-not-is_key.false in
    map_end rules (inner rules) c.args.key c.args.value v NoCount (ap is_object tree)
    (none_at (ReadsEntry (rules.is_key c.args.key) (ReadsValue rules) (of_shape c.args.value))
    (members_in v) c.loop-index.index
    (record { name = c.index.result.now.0.now; value = w }) c.loop-index.count c.in_ok-next.next
    (member_at v c.in-Object.members.items c.loop-index.index c.index.result.now w tree there
    c.child-member.ensures.child)
    (c.is_none.ensures.0 c.if-is_none.true) c.loop-index.invariant.counted
    (count_of_entry (rules.is_key c.args.key) (ReadsValue rules) (of_shape c.args.value)
    (record { name = c.index.result.now.0.now; value = w }) c.in_ok-next.next key
    c.in_ok-next.ensures.count))

pub each::count_entries-loop-index-preserved : goal.each::count_entries-loop-index-preserved
each::count_entries-loop-index-preserved t c =
    let v : Tree = value_of c.args.nodes.now c.args.node in
    let w : Tree = value_of c.args.nodes.now c.child-member.result in
    let rules : Rules = rules_at c.args.tables.now in
    let tree : v ≡ object (members_view c.in-Object.members.items) =
    sym c.value.ensures ∙ (ap view c.in-Object.is ∙ seen_object c.in-Object.members) in
    let there : slice_get c.in-Object.members.items c.loop-index.index ≡ Some c.index.result.now =
    slice_get_read c.in-Object.members.items (length c.in-Object.members.items) c.loop-index.index
    c.index.result.now refl (omega arith) c.index.ensures in
    let key : rules.is_key c.args.key c.index.result.now.0.now ≡ true =
    sym c.is_key.ensures ∙ c.if-not-is_key.false in record {
      sound = c.in_ok-next.ensures.sound;
      counted = rw c.times-count.ensures
          (count_up_to_at
          (ReadsEntry (rules.is_key c.args.key) (ReadsValue rules) (of_shape c.args.value))
          (members_in v) c.loop-index.index
          (record { name = c.index.result.now.0.now; value = w }) c.loop-index.count
          c.in_ok-next.next
          (member_at v c.in-Object.members.items c.loop-index.index c.index.result.now w tree there
          c.child-member.ensures.child)
          c.loop-index.invariant.counted
          (count_of_entry (rules.is_key c.args.key) (ReadsValue rules) (of_shape c.args.value)
          (record { name = c.index.result.now.0.now; value = w }) c.in_ok-next.next key
          c.in_ok-next.ensures.count));
    }

pub each::count_entries-returns-clause-count : goal.each::count_entries-returns-clause-count
each::count_entries-returns-clause-count t c =
    let v : Tree = value_of c.args.nodes.now c.args.node in
    let rules : Rules = rules_at c.args.tables.now in
    let tree : v ≡ object (members_view c.in-Object.members.items) =
    sym c.value.ensures ∙ (ap view c.in-Object.is ∙ seen_object c.in-Object.members) in
    map_end rules (inner rules) c.args.key c.args.value v c.loop-index.count (ap is_object tree)
    (count_up_to_all
    (ReadsEntry (rules.is_key c.args.key) (ReadsValue rules) (of_shape c.args.value))
    (members_in v) c.loop-index.index c.loop-index.count
    (omega (arith, object_length v c.in-Object.members.items tree))
    c.loop-index.invariant.counted)

-- ---- the items of a list, one after another

pub each::count_items-loop-index-init : goal.each::count_items-loop-index-init
each::count_items-loop-index-init t c = record {
  sound = c.requires.sound;
  counted = count_of_none (ReadsValue (rules_at c.args.tables.now) (of_shape c.args.shape));
}

pub each::count_items-child-item-requires-clause-index_in_range :
    goal.each::count_items-child-item-requires-clause-index_in_range
each::count_items-child-item-requires-clause-index_in_range t c =
    let v : Tree = value_of c.args.nodes.now c.args.node in
    let tree : v ≡ list (items_view c.in-List.items.items) =
    sym c.value.ensures ∙ (ap view c.in-List.is ∙ seen_list c.in-List.items) in
    omega (arith, list_length v c.in-List.items.items tree)

pub each::count_items-count_shape-requires : goal.each::count_items-count_shape-requires
each::count_items-count_shape-requires t c =
    let falls = child_levels c.args.nodes.now c.args.node c.child-item.result c.loop-index.index
    c.args.tables.now.steps c.child-item.ensures.child (omega arith) in (
      omega arith,
      (
        c.loop-index.invariant.sound,
        (
          c.child-item.ensures.in_range,
          (
            c.requires.served,
            ranked_shape c.args.tables.now c.args.shape c.requires.sound.tables
                c.requires.served,
          ),
        ),
      ),
    )

pub each::count_items-returns-then-is_none-clause-count :
    goal.each::count_items-returns-then-is_none-clause-count
each::count_items-returns-then-is_none-clause-count t c =
    let v : Tree = value_of c.args.nodes.now c.args.node in
    let rules : Rules = rules_at c.args.tables.now in
    let tree : v ≡ list (items_view c.in-List.items.items) =
    sym c.value.ensures ∙ (ap view c.in-List.is ∙ seen_list c.in-List.items) in
    list_end rules (inner rules) c.args.shape v NoCount (ap is_list tree)
    (none_at (ReadsValue rules (of_shape c.args.shape)) (children v) c.loop-index.index
    (value_of c.args.nodes.now c.child-item.result) c.loop-index.count c.in_ok-next.next
    c.child-item.ensures.child (c.is_none.ensures.0 c.if-is_none.true)
    c.loop-index.invariant.counted c.in_ok-next.ensures.count)

pub each::count_items-loop-index-preserved : goal.each::count_items-loop-index-preserved
each::count_items-loop-index-preserved t c = record {
  sound = c.in_ok-next.ensures.sound;
  counted = rw c.times-count.ensures
      (count_up_to_at (ReadsValue (rules_at c.args.tables.now) (of_shape c.args.shape))
      (children (value_of c.args.nodes.now c.args.node)) c.loop-index.index
      (value_of c.args.nodes.now c.child-item.result) c.loop-index.count c.in_ok-next.next
      c.child-item.ensures.child c.loop-index.invariant.counted c.in_ok-next.ensures.count);
}

pub each::count_items-returns-clause-count : goal.each::count_items-returns-clause-count
each::count_items-returns-clause-count t c =
    let v : Tree = value_of c.args.nodes.now c.args.node in
    let rules : Rules = rules_at c.args.tables.now in
    let tree : v ≡ list (items_view c.in-List.items.items) =
    sym c.value.ensures ∙ (ap view c.in-List.is ∙ seen_list c.in-List.items) in
    list_end rules (inner rules) c.args.shape v c.loop-index.count (ap is_list tree)
    (count_up_to_all (ReadsValue rules (of_shape c.args.shape)) (children v) c.loop-index.index
    c.loop-index.count (omega (arith, list_length v c.in-List.items.items tree))
    c.loop-index.invariant.counted)

-- ---- the values of a tuple, one after another

pub each::count_tuple-returns-then-len-shapes-clause-count :
    goal.each::count_tuple-returns-then-len-shapes-clause-count
each::count_tuple-returns-then-len-shapes-clause-count t c =
    let v : Tree = value_of c.args.nodes.now c.args.node in
    let rules : Rules = rules_at c.args.tables.now in
    let tree : v ≡ list (items_view c.in-List.items.items) =
    sym c.value.ensures ∙ (ap view c.in-List.is ∙ seen_list c.in-List.items) in
    let long : length (children v) ≡ length c.in-List.items.items =
    list_length v c.in-List.items.items tree in
    no_tuple rules (inner rules) c.args.shapes.now v (ap is_list tree)
    (λ e. c.if-len-shapes.true (omega arith))

pub each::count_tuple-loop-index-init : goal.each::count_tuple-loop-index-init
each::count_tuple-loop-index-init t c = record {
  sound = c.requires.sound;
  counted = count_of_none (ReadsPlace (ReadsValue (rules_at c.args.tables.now)));
}

pub each::count_tuple-child-item-requires-clause-index_in_range :
    goal.each::count_tuple-child-item-requires-clause-index_in_range
each::count_tuple-child-item-requires-clause-index_in_range t c =
    let v : Tree = value_of c.args.nodes.now c.args.node in
    let tree : v ≡ list (items_view c.in-List.items.items) =
    sym c.value.ensures ∙ (ap view c.in-List.is ∙ seen_list c.in-List.items) in
    omega (arith, list_length v c.in-List.items.items tree)

pub each::count_tuple-count_shape-requires : goal.each::count_tuple-count_shape-requires
each::count_tuple-count_shape-requires t c =
    let falls = child_levels c.args.nodes.now c.args.node c.child-item.result c.loop-index.index
    c.args.tables.now.steps c.child-item.ensures.child (omega arith) in
    let there : slice_get c.args.shapes.now c.loop-index.index ≡ Some c.index-shapes-index.result =
    slice_get_read c.args.shapes.now (length c.args.shapes.now) c.loop-index.index
    c.index-shapes-index.result refl c.loop-index-test.true c.index-shapes-index.is in
    let served : ShapeIsServed c.args.tables.now c.index-shapes-index.result =
    at_index (ShapeIsServed c.args.tables.now) c.args.shapes.now c.loop-index.index
    c.index-shapes-index.result there c.requires.served in (
      omega arith,
      (
        c.loop-index.invariant.sound,
        (
          c.child-item.ensures.in_range,
          (
            served,
            ranked_shape c.args.tables.now c.index-shapes-index.result
                c.requires.sound.tables served,
          ),
        ),
      ),
    )

pub each::count_tuple-returns-then-is_none-clause-count :
    goal.each::count_tuple-returns-then-is_none-clause-count
each::count_tuple-returns-then-is_none-clause-count t c =
    let v : Tree = value_of c.args.nodes.now c.args.node in
    let rules : Rules = rules_at c.args.tables.now in
    let tree : v ≡ list (items_view c.in-List.items.items) =
    sym c.value.ensures ∙ (ap view c.in-List.is ∙ seen_list c.in-List.items) in
    let long : length (children v) ≡ length c.in-List.items.items =
    list_length v c.in-List.items.items tree in
    let there : slice_get c.args.shapes.now c.loop-index.index ≡ Some c.index-shapes-index.result =
    slice_get_read c.args.shapes.now (length c.args.shapes.now) c.loop-index.index
    c.index-shapes-index.result refl c.loop-index-test.true c.index-shapes-index.is in
    tuple_end rules (inner rules) c.args.shapes.now v NoCount (ap is_list tree) (omega arith)
    (none_at_place (ReadsValue rules) c.args.shapes.now (children v) c.loop-index.index
    c.index-shapes-index.result (value_of c.args.nodes.now c.child-item.result) c.loop-index.count
    c.in_ok-next.next there c.child-item.ensures.child (c.is_none.ensures.0 c.if-is_none.true)
    c.loop-index.invariant.counted c.in_ok-next.ensures.count)

pub each::count_tuple-loop-index-preserved : goal.each::count_tuple-loop-index-preserved
each::count_tuple-loop-index-preserved t c =
    let there : slice_get c.args.shapes.now c.loop-index.index ≡ Some c.index-shapes-index.result =
    slice_get_read c.args.shapes.now (length c.args.shapes.now) c.loop-index.index
    c.index-shapes-index.result refl c.loop-index-test.true c.index-shapes-index.is in record {
      sound = c.in_ok-next.ensures.sound;
      counted = rw c.times-count.ensures
          (count_up_to_place_at (ReadsValue (rules_at c.args.tables.now)) c.args.shapes.now
          (children (value_of c.args.nodes.now c.args.node)) c.loop-index.index
          c.index-shapes-index.result (value_of c.args.nodes.now c.child-item.result)
          c.loop-index.count c.in_ok-next.next there c.child-item.ensures.child
          c.loop-index.invariant.counted c.in_ok-next.ensures.count);
    }

pub each::count_tuple-returns-clause-count : goal.each::count_tuple-returns-clause-count
each::count_tuple-returns-clause-count t c =
    let v : Tree = value_of c.args.nodes.now c.args.node in
    let rules : Rules = rules_at c.args.tables.now in
    let tree : v ≡ list (items_view c.in-List.items.items) =
    sym c.value.ensures ∙ (ap view c.in-List.is ∙ seen_list c.in-List.items) in
    let long : length (children v) ≡ length c.in-List.items.items =
    list_length v c.in-List.items.items tree in
    tuple_end rules (inner rules) c.args.shapes.now v c.loop-index.count (ap is_list tree)
    (omega arith)
    (count_up_to_all (ReadsPlace (ReadsValue rules)) (zip c.args.shapes.now (children v))
    c.loop-index.index c.loop-index.count
    (omega (arith, length-zip c.args.shapes.now (children v))) c.loop-index.invariant.counted)

-- ---- a value by what its shape comes to

pub target::count_end-count_shape-requires : goal.target::count_end-count_shape-requires
target::count_end-count_shape-requires t c =
    let ends : end_view c.args.end.now ≡ an_option c.in-Option.inside =
    ap end_view c.in-Option.is in
    let end_is : (rules_at c.args.tables.now).end_of c.args.shape ≡ an_option c.in-Option.inside =
    sym c.requires.end.same ∙ ends in
    let some : 0 < c.args.steps =
    rank_some (rules_at c.args.tables.now) c.args.steps (of_shape c.args.shape) c.requires.ranked in
    let more : c.args.steps ≡ suc (c.args.steps - 1) = omega arith in (
      omega arith,
      (
        c.requires.sound,
        (
          c.requires.inside,
          (
            subst (EndIsServed c.args.tables.now) ends c.requires.end.served,
            ranked_inside (rules_at c.args.tables.now) (c.args.steps - 1) c.args.shape
                c.in-Option.inside
                (subst (λ n. IsRanked n (rules_at c.args.tables.now) (of_shape c.args.shape)) more
                c.requires.ranked) end_is,
          ),
        ),
      ),
    )

pub target::count_end-count_tuple-requires : goal.target::count_end-count_tuple-requires
target::count_end-count_tuple-requires t c =
    let ends : end_view c.args.end.now ≡ a_tuple c.deref.result.now =
    ap end_view c.in-Tuple.is ∙ ap a_tuple (sym c.deref.ensures.value) in (
      omega arith,
      (
        c.requires.sound,
        (
          c.requires.inside,
          subst (EndIsServed c.args.tables.now) ends c.requires.end.served,
        ),
      ),
    )

pub target::count_end-count_untagged-requires : goal.target::count_end-count_untagged-requires
target::count_end-count_untagged-requires t c =
    let joined : ListId = list_view c.in-UntaggedVariant.joined in
    let alone : List Alternative =
    map alternative_view c.deref-in-UntaggedVariant.result.now in
    let ends : end_view c.args.end.now ≡ an_untagged_variant joined alone =
    ap end_view c.in-UntaggedVariant.is
    ∙ ap (λ (others : List code_alternative.Alternative).
    an_untagged_variant (list_view c.in-UntaggedVariant.joined) (map alternative_view others))
    (sym c.deref-in-UntaggedVariant.ensures.value) in
    let served : EndIsServed c.args.tables.now (an_untagged_variant joined alone) =
    subst (EndIsServed c.args.tables.now) ends c.requires.end.served in (
      omega arith,
      (
        c.requires.sound,
        (
          c.requires.inside,
          (
            served.0,
            (
              served.1,
              ranked_alternatives (rules_at c.args.tables.now) c.args.steps c.args.shape joined
                  alone
                  c.requires.ranked (sym c.requires.end.same ∙ ends),
            ),
          ),
        ),
      ),
    )

pub target::count_end-returns-in-Null-clause-count :
    goal.target::count_end-returns-in-Null-clause-count
target::count_end-returns-in-Null-clause-count t c =
    let v : Tree = value_of c.args.nodes.now c.args.node in
    let rules : Rules = rules_at c.args.tables.now in
    let tree : v ≡ null = sym c.value.ensures ∙ (ap view c.in-Null.is ∙ seen_null) in
    count_of_shape rules c.args.steps c.args.shape (an_option c.in-Option.inside) v One
    c.requires.ranked (sym c.requires.end.same ∙ ap end_view c.in-Option.is)
    (subst (λ u. Counted (ReadsEnd rules (inner rules) (an_option c.in-Option.inside) u) One)
    (sym tree) (count_of_absent rules (inner rules) c.in-Option.inside))

pub target::count_end-returns-in_default-value : goal.target::count_end-returns-in_default-value
target::count_end-returns-in_default-value t c =
    let v : Tree = value_of c.args.nodes.now c.args.node in
    let rules : Rules = rules_at c.args.tables.now in
    let some : is_null v ≡ false =
    ap is_null (sym c.value.ensures)
    ∙ seen_no_null c.value.result.now c.in_default-value.not-Null in
    record {
      sound = c.count_shape.ensures.sound;
      count = if_end c.args.tables.now c.args.nodes.now c.args.node c.args.shape c.args.end.now
          (an_option c.in-Option.inside) c.args.steps c.count_shape.result c.requires.ranked
          c.requires.end (ap end_view c.in-Option.is)
          (if_present rules (inner rules) c.in-Option.inside v c.count_shape.result some
          c.count_shape.ensures.count);
    }

pub target::count_end-returns-in-List-clause-count :
    goal.target::count_end-returns-in-List-clause-count
target::count_end-returns-in-List-clause-count t c =
    if_end c.args.tables.now c.args.nodes.now c.args.node c.args.shape c.args.end.now
    (a_list c.in-List.item) c.args.steps c.count_items.result c.requires.ranked c.requires.end
    (ap end_view c.in-List.is) c.count_items.ensures.count

pub target::count_end-returns-in-Tuple-clause-count :
    goal.target::count_end-returns-in-Tuple-clause-count
target::count_end-returns-in-Tuple-clause-count t c =
    if_end c.args.tables.now c.args.nodes.now c.args.node c.args.shape c.args.end.now
    (a_tuple c.deref.result.now) c.args.steps c.count_tuple.result c.requires.ranked
    c.requires.end (ap end_view c.in-Tuple.is ∙ ap a_tuple (sym c.deref.ensures.value))
    c.count_tuple.ensures.count

pub target::count_end-returns-in-Map-clause-count :
    goal.target::count_end-returns-in-Map-clause-count
target::count_end-returns-in-Map-clause-count t c =
    if_end c.args.tables.now c.args.nodes.now c.args.node c.args.shape c.args.end.now
    (a_map c.in-Map.key c.in-Map.value) c.args.steps c.count_entries.result c.requires.ranked
    c.requires.end (ap end_view c.in-Map.is) c.count_entries.ensures.count

pub target::count_end-returns-in-Object-value-clause-count :
    goal.target::count_end-returns-in-Object-value-clause-count
target::count_end-returns-in-Object-value-clause-count t c =
    let v : Tree = value_of c.args.nodes.now c.args.node in
    let rules : Rules = rules_at c.args.tables.now in
    let is : is_object v ≡ true =
    ap is_object (sym c.value-in-Object.ensures ∙ (ap view c.in-Object-value.is
    ∙ seen_object c.in-Object-value.field-0)) in
    if_end c.args.tables.now c.args.nodes.now c.args.node c.args.shape c.args.end.now
    (an_object (list_view c.in-Object.list)) c.args.steps c.count_object.result c.requires.ranked
    c.requires.end (ap end_view c.in-Object.is)
    (if_object_end rules (inner rules) (list_view c.in-Object.list) v c.count_object.result is
    c.count_object.ensures.count)

pub target::count_end-returns-in_default-value-2 : goal.target::count_end-returns-in_default-value-2
target::count_end-returns-in_default-value-2 t c =
    let v : Tree = value_of c.args.nodes.now c.args.node in
    let rules : Rules = rules_at c.args.tables.now in
    let is_not : is_object v ≡ false =
    ap is_object (sym c.value-in-Object.ensures)
    ∙ seen_no_object c.value-in-Object.result.now c.in_default-value-2.not-Object in
    record {
      sound = c.requires.sound;
      count = count_of_shape rules c.args.steps c.args.shape
          (an_object (list_view c.in-Object.list))
          v NoCount c.requires.ranked (sym c.requires.end.same ∙ ap end_view c.in-Object.is)
          (count_of_no_object rules (inner rules) (list_view c.in-Object.list) v is_not);
    }

pub target::count_end-returns-in-NamedVariant-clause-count :
    goal.target::count_end-returns-in-NamedVariant-clause-count
target::count_end-returns-in-NamedVariant-clause-count t c =
    if_end c.args.tables.now c.args.nodes.now c.args.node c.args.shape c.args.end.now
    (a_named_variant (map named_view c.deref-in-NamedVariant.result.now)) c.args.steps
    c.count_named.result c.requires.ranked c.requires.end
    (ap end_view c.in-NamedVariant.is
    ∙ ap (λ vs. a_named_variant (map named_view vs)) (sym c.deref-in-NamedVariant.ensures.value))
    c.count_named.ensures.count

pub target::count_end-returns-in-UntaggedVariant-clause-count :
    goal.target::count_end-returns-in-UntaggedVariant-clause-count
target::count_end-returns-in-UntaggedVariant-clause-count t c =
    if_end c.args.tables.now c.args.nodes.now c.args.node c.args.shape c.args.end.now
    (an_untagged_variant (list_view c.in-UntaggedVariant.joined)
    (map alternative_view c.deref-in-UntaggedVariant.result.now)) c.args.steps
    c.count_untagged.result c.requires.ranked c.requires.end
    (ap end_view c.in-UntaggedVariant.is
    ∙ ap (λ (others : List code_alternative.Alternative).
    an_untagged_variant (list_view c.in-UntaggedVariant.joined) (map alternative_view others))
    (sym c.deref-in-UntaggedVariant.ensures.value))
    c.count_untagged.ensures.count

pub target::count_end-returns-in_default-clause-count :
    goal.target::count_end-returns-in_default-clause-count
target::count_end-returns-in_default-clause-count t c =
    let v : Tree = value_of c.args.nodes.now c.args.node in
    let rules : Rules = rules_at c.args.tables.now in
    let end : End = end_view c.args.end.now in
    let scalar : Counted (ReadsScalar end v) c.count_scalar.result =
    subst (λ u. Counted (ReadsScalar end u) c.count_scalar.result) c.value-in_default.ensures
    c.count_scalar.ensures in
    count_of_shape rules c.args.steps c.args.shape end v c.count_scalar.result c.requires.ranked
    (sym c.requires.end.same)
    (scalar_count rules (inner rules) end v c.count_scalar.result
    (scalar_rest c.args.end.now (λ i. c.in_default.not-Option i) (λ i. c.in_default.not-List i)
    (λ is. c.in_default.not-Tuple is) (λ k i. c.in_default.not-Map k i)
    (λ id. c.in_default.not-Object id) (λ vs. c.in_default.not-NamedVariant vs)
    (λ id vs. c.in_default.not-UntaggedVariant id vs)) scalar)

-- ---- a value as a shape, found once

pub target::count_shape-count_end-requires : goal.target::count_shape-count_end-requires
target::count_shape-count_end-requires t c = (
  omega arith,
  (
    c.requires.sound,
    (
      c.requires.inside,
      (
        c.requires.sound.tables.ends c.args.shape c.end-end.result.now c.end-end.ensures,
        c.requires.ranked,
      ),
    ),
  ),
)

pub target::count_shape-count_end-requires-2 :
    goal.target::count_shape-count_end-requires-2
target::count_shape-count_end-requires-2 t c = (
  omega arith,
  (
    c.requires.sound,
    (
      c.requires.inside,
      (
        c.requires.sound.tables.ends c.args.shape c.end-end.result.now c.end-end.ensures,
        c.requires.ranked,
      ),
    ),
  ),
)

pub target::count_shape-returns-clause-sound : goal.target::count_shape-returns-clause-sound
target::count_shape-returns-clause-sound t c =
    sound_added c.args.tables.now c.args.nodes.now c.count_end-2.new.memo.entries.items
    c.put.new.self.entries.items c.args.node (of_shape c.args.shape) c.in_ok-count.count
    c.in_ok-count.ensures.sound c.in_ok-put.ensures.ok c.in_ok-count.ensures.count

-- ---- a value as a target

pub target::count_target-returns-in-Shape-clause-count :
    goal.target::count_target-returns-in-Shape-clause-count
target::count_target-returns-in-Shape-clause-count t c =
    subst (λ (x : code_target.Target). IfOk c.count_shape.result
    (IsCount c.args.tables.now c.args.nodes.now c.args.node (target_view x))) (sym c.in-Shape.is)
    c.count_shape.ensures.count

pub target::count_target-returns-in-Content-clause-count :
    goal.target::count_target-returns-in-Content-clause-count
target::count_target-returns-in-Content-clause-count t c =
    subst (λ (x : code_target.Target). IfOk c.count_content.result
    (IsCount c.args.tables.now c.args.nodes.now c.args.node (target_view x))) (sym c.in-Content.is)
    c.count_content.ensures.count

pub target::count_target-returns-in-Tag-clause-count :
    goal.target::count_target-returns-in-Tag-clause-count
target::count_target-returns-in-Tag-clause-count t c =
    let v : Tree = value_of c.args.nodes.now c.args.node in
    subst (λ (x : code_target.Target).
    IsCount c.args.tables.now c.args.nodes.now c.args.node (target_view x) c.count_tag.result)
    (sym c.in-Tag.is)
    (count_of_tag_value (rules_at c.args.tables.now) c.in-Tag.name.now v c.count_tag.result
    (subst (λ u. Counted (ReadsTag c.in-Tag.name.now u) c.count_tag.result) c.value.ensures
    c.count_tag.ensures))

-- ---- the alternatives that read a value by themselves, one after another

pub untagged::count_alone-count_alternative-requires :
    goal.untagged::count_alone-count_alternative-requires
untagged::count_alone-count_alternative-requires t c =
    let i : ℕ = c.loop-alternative.alternative-index in
    let there : slice_get c.args.alone.now i ≡ Some c.alternative-item.result =
    slice_get_read c.args.alone.now (length c.args.alone.now) i c.alternative-item.result refl
    c.loop-alternative-test.true c.alternative-item.is in (
      omega arith,
      (
        c.loop-alternative.invariant.sound,
        (
          c.requires.inside,
          (
            at_seen (λ (a : Alternative). IsServed c.args.tables.now a.content) alternative_view
                c.args.alone.now i c.alternative-item.result there c.requires.served,
            at_seen
                (λ (a : Alternative).
                IsRankedAlternative (rules_at c.args.tables.now) c.args.steps a)
                alternative_view c.args.alone.now i c.alternative-item.result there
                c.requires.ranked,
          ),
        ),
      ),
    )

pub untagged::count_alone-loop-alternative-preserved :
    goal.untagged::count_alone-loop-alternative-preserved
untagged::count_alone-loop-alternative-preserved t c =
    let i : ℕ = c.loop-alternative.alternative-index in
    let there : slice_get c.args.alone.now i ≡ Some c.alternative-item.result =
    slice_get_read c.args.alone.now (length c.args.alone.now) i c.alternative-item.result refl
    c.loop-alternative-test.true c.alternative-item.is in record {
      sound = c.in_ok-next.ensures.sound;
      counted = rw c.plus-count.ensures
          (count_alone_more (ReadsValue (rules_at c.args.tables.now))
          (map alternative_view c.args.alone.now) (value_of c.args.nodes.now c.args.node) i
          (alternative_view c.alternative-item.result) c.loop-alternative.count c.in_ok-next.next
          (seen_at alternative_view c.args.alone.now i c.alternative-item.result there)
          c.loop-alternative.invariant.counted c.in_ok-next.ensures.count);
    }

pub untagged::count_alone-returns-clause-count : goal.untagged::count_alone-returns-clause-count
untagged::count_alone-returns-clause-count t c =
    count_alone_all (ReadsValue (rules_at c.args.tables.now))
    (map alternative_view c.args.alone.now) (value_of c.args.nodes.now c.args.node)
    c.loop-alternative.alternative-index c.loop-alternative.count
    (omega (arith, length-map c.args.alone.now alternative_view))
    c.loop-alternative.invariant.counted

-- ---- one alternative, by its kind

pub untagged::count_alternative-count_target-requires :
    goal.untagged::count_alternative-count_target-requires
untagged::count_alternative-count_target-requires t c =
    let a : Alternative = alternative_view c.args.alternative.now in
    let ranked : IsRankedAlternative (rules_at c.args.tables.now) c.args.steps
    (alternative_view c.args.alternative.now) = c.requires.ranked in
    let some : c.args.steps ≡ ranked.0 + 1 = ranked.1 in
    let asks : asked_by_kind (kind_view c.args.alternative.now.kind)
    (target_view c.args.alternative.now.content)
    ≡ target_view c.args.alternative.now.content ∷ [] =
    content_asked (kind_view c.args.alternative.now.kind)
    (list_any (is_whole_of (view c.value-value.result.now))
    (map alternative_view c.args.others.now))
    (target_view c.args.alternative.now.content)
    (sym c.reads_content.ensures ∙ c.if-not-reads_content.false) in (
      omega arith,
      (
        c.requires.sound,
        (
          c.requires.inside,
          (
            c.requires.served,
            ranked_asked (rules_at c.args.tables.now) c.args.steps
                (alternative_view c.args.alternative.now) ranked asks,
          ),
        ),
      ),
    )

pub untagged::count_alternative-returns-in-Null-clause-count :
    goal.untagged::count_alternative-returns-in-Null-clause-count
untagged::count_alternative-returns-in-Null-clause-count t c =
    rw c.from.ensures
    (null_read (ReadsValue (rules_at c.args.tables.now))
    (map alternative_view c.args.others.now) (alternative_view c.args.alternative.now)
    (value_of c.args.nodes.now c.args.node) c.is_null.result (ap kind_view c.in-Null.is)
    (c.is_null.ensures ∙ ap is_null c.value-value.ensures))

pub untagged::count_alternative-returns-then-not-reads_content-clause-count :
    goal.untagged::count_alternative-returns-then-not-reads_content-clause-count
untagged::count_alternative-returns-then-not-reads_content-clause-count t c =
    let v : Tree = value_of c.args.nodes.now c.args.node in
    let others : List Alternative = map alternative_view c.args.others.now in
    let passes : reads_content (kind_view c.args.alternative.now.kind)
    (list_any (is_whole_of v) others) ≡ false =
    ap (λ u. reads_content (kind_view c.args.alternative.now.kind)
    (list_any (is_whole_of u) (map alternative_view c.args.others.now)))
    (sym c.value-value.ensures)
    ∙ (sym c.reads_content.ensures ∙ c.if-not-reads_content.true) in
    no_content_read (ReadsValue (rules_at c.args.tables.now))
    (kind_view c.args.alternative.now.kind) (list_any (is_whole_of v) others)
    (target_view c.args.alternative.now.content) v passes
    (λ e. c.in_default.not-Null (null_seen c.args.alternative.now.kind e))

pub untagged::count_alternative-returns : goal.untagged::count_alternative-returns
untagged::count_alternative-returns t c =
    let v : Tree = value_of c.args.nodes.now c.args.node in
    let others : List Alternative = map alternative_view c.args.others.now in
    let passes : reads_content (kind_view c.args.alternative.now.kind)
    (list_any (is_whole_of v) others) ≡ true =
    ap (λ u. reads_content (kind_view c.args.alternative.now.kind)
    (list_any (is_whole_of u) (map alternative_view c.args.others.now)))
    (sym c.value-value.ensures)
    ∙ (sym c.reads_content.ensures ∙ c.if-not-reads_content.false) in record {
      sound = c.count_target.ensures.sound;
      count = if_content_read (ReadsValue (rules_at c.args.tables.now)) others
          (alternative_view c.args.alternative.now) v c.count_target.result passes
          c.count_target.ensures.count;
    }

-- ---- the fallbacks, one after another

pub untagged::count_fallbacks-overflow_sub-steps : goal.untagged::count_fallbacks-overflow_sub-steps
untagged::count_fallbacks-overflow_sub-steps t c =
    let i : ℕ = c.loop-alternative.alternative-index in
    let there : slice_get c.args.alone.now i ≡ Some c.alternative-item.result =
    slice_get_read c.args.alone.now (length c.args.alone.now) i c.alternative-item.result refl
    c.loop-alternative-test.true c.alternative-item.is in
    let ranked : IsRankedAlternative (rules_at c.args.tables.now) c.args.steps
    (alternative_view c.alternative-item.result) =
    at_seen (λ (a : Alternative). IsRankedAlternative (rules_at c.args.tables.now) c.args.steps a)
    alternative_view c.args.alone.now i c.alternative-item.result there c.requires.ranked in
    let some : c.args.steps ≡ ranked.0 + 1 = ranked.1 in
    omega arith

pub untagged::count_fallbacks-count_target-requires :
    goal.untagged::count_fallbacks-count_target-requires
untagged::count_fallbacks-count_target-requires t c =
    let i : ℕ = c.loop-alternative.alternative-index in
    let a : Alternative = alternative_view c.alternative-item.result in
    let there : slice_get c.args.alone.now i ≡ Some c.alternative-item.result =
    slice_get_read c.args.alone.now (length c.args.alone.now) i c.alternative-item.result refl
    c.loop-alternative-test.true c.alternative-item.is in
    let ranked : IsRankedAlternative (rules_at c.args.tables.now) c.args.steps
    (alternative_view c.alternative-item.result) =
    at_seen (λ (a : Alternative). IsRankedAlternative (rules_at c.args.tables.now) c.args.steps a)
    alternative_view c.args.alone.now i c.alternative-item.result there c.requires.ranked in
    let some : c.args.steps ≡ ranked.0 + 1 = ranked.1 in (
      omega arith,
      (
        c.loop-alternative.invariant.sound,
        (
          c.requires.inside,
          (
            at_seen (λ (a : Alternative). IsServed c.args.tables.now a.content) alternative_view
                c.args.alone.now i c.alternative-item.result there c.requires.served,
            ranked_asked (rules_at c.args.tables.now) c.args.steps
                (alternative_view c.alternative-item.result) ranked
                (ap
                (λ k. asked_by_kind (kind_view k) (target_view c.alternative-item.result.content))
                c.in-Fallback.is),
          ),
        ),
      ),
    )

pub untagged::count_fallbacks-loop-alternative-preserved :
    goal.untagged::count_fallbacks-loop-alternative-preserved
untagged::count_fallbacks-loop-alternative-preserved t c =
    let i : ℕ = c.loop-alternative.alternative-index in
    let there : slice_get (map alternative_view c.args.alone.now) i
    ≡ Some (alternative_view c.alternative-item.result) =
    seen_at alternative_view c.args.alone.now i c.alternative-item.result
    (slice_get_read c.args.alone.now (length c.args.alone.now) i c.alternative-item.result refl
    c.loop-alternative-test.true c.alternative-item.is) in
    elim c.match-alternative.branch [
      | untagged::count_fallbacks-in-Fallback+in_ok-next w ↦ record {
        sound = rw w.memo-is w.in_ok-next.ensures.sound;
        counted = rw (w.count-is, w.plus-count.ensures)
            (count_fallback_more (ReadsValue (rules_at c.args.tables.now))
            (map alternative_view c.args.alone.now) (value_of c.args.nodes.now c.args.node) i
            (alternative_view c.alternative-item.result) c.loop-alternative.count
            w.in_ok-next.next there (ap kind_view w.in-Fallback.is)
            c.loop-alternative.invariant.counted w.in_ok-next.ensures.count);
      }
      | untagged::count_fallbacks-in_default w ↦ record {
        sound = rw w.memo-is c.loop-alternative.invariant.sound;
        counted = rw w.count-is
            (count_fallback_same (ReadsValue (rules_at c.args.tables.now))
            (map alternative_view c.args.alone.now) (value_of c.args.nodes.now c.args.node) i
            (alternative_view c.alternative-item.result) c.loop-alternative.count there
            (λ e. w.in_default.not-Fallback (fallback_seen c.alternative-item.result.kind e))
            c.loop-alternative.invariant.counted);
      }
    ]

pub untagged::count_fallbacks-returns-clause-count :
    goal.untagged::count_fallbacks-returns-clause-count
untagged::count_fallbacks-returns-clause-count t c =
    count_fallback_all (ReadsValue (rules_at c.args.tables.now))
    (map alternative_view c.args.alone.now) (value_of c.args.nodes.now c.args.node)
    c.loop-alternative.alternative-index c.loop-alternative.count
    (omega (arith, length-map c.args.alone.now alternative_view))
    c.loop-alternative.invariant.counted

-- ---- an untagged enum: directly, or else by the fallbacks

pub untagged::count_untagged-returns-then-not-is_none-clause-count :
    goal.untagged::count_untagged-returns-then-not-is_none-clause-count
untagged::count_untagged-returns-then-not-is_none-clause-count t c =
    let v : Tree = value_of c.args.nodes.now c.args.node in
    let rules : Rules = rules_at c.args.tables.now in
    let alone : List Alternative = map alternative_view c.args.alone.now in
    let joined : Counted (ReadsJoined rules (ReadsValue rules) (list_view c.args.joined) v)
    c.match-value.by_parts =
    elim c.match-value.branch [
      | untagged::count_untagged-in-Object+in_ok-by_parts-in-Object w ↦
          rw w.by_parts-is
          (joined_object rules (ReadsValue rules) (list_view c.args.joined) v
          w.in_ok-by_parts-in-Object.by_parts
          (ap is_object
          (sym c.value.ensures ∙ (ap view w.in-Object.is ∙ seen_object w.in-Object.field-0)))
          w.in_ok-by_parts-in-Object.ensures.count)
      | untagged::count_untagged-in_default w ↦
          rw w.by_parts-is
          (count_of_none_joined rules (ReadsValue rules) (list_view c.args.joined) v
          (ap is_object (sym c.value.ensures)
          ∙ seen_no_object c.value.result.now w.in_default.not-Object))
    ] in
    let direct : Counted (ReadsDirectly rules (inner rules)
    (an_untagged_variant (list_view c.args.joined) alone) v) c.plus-direct.result =
    rw c.plus-direct.ensures
    (count_directly rules (inner rules) (list_view c.args.joined) alone v c.match-value.by_parts
    c.in_ok-by_itself.by_itself joined c.in_ok-by_itself.ensures.count) in
    count_of_direct rules (inner rules) (list_view c.args.joined) alone v c.plus-direct.result
    (λ e. let none : c.is_none.result ≡ true = c.is_none.ensures.1 e in
    let some : c.is_none.result ≡ false = c.if-not-is_none.true in absurd (cc)) direct

pub untagged::count_untagged-returns-clause-count :
    goal.untagged::count_untagged-returns-clause-count
untagged::count_untagged-returns-clause-count t c =
    let v : Tree = value_of c.args.nodes.now c.args.node in
    let rules : Rules = rules_at c.args.tables.now in
    let alone : List Alternative = map alternative_view c.args.alone.now in
    let joined : Counted (ReadsJoined rules (ReadsValue rules) (list_view c.args.joined) v)
    c.match-value.by_parts =
    elim c.match-value.branch [
      | untagged::count_untagged-in-Object+in_ok-by_parts-in-Object w ↦
          rw w.by_parts-is
          (joined_object rules (ReadsValue rules) (list_view c.args.joined) v
          w.in_ok-by_parts-in-Object.by_parts
          (ap is_object
          (sym c.value.ensures ∙ (ap view w.in-Object.is ∙ seen_object w.in-Object.field-0)))
          w.in_ok-by_parts-in-Object.ensures.count)
      | untagged::count_untagged-in_default w ↦
          rw w.by_parts-is
          (count_of_none_joined rules (ReadsValue rules) (list_view c.args.joined) v
          (ap is_object (sym c.value.ensures)
          ∙ seen_no_object c.value.result.now w.in_default.not-Object))
    ] in
    let direct : Counted (ReadsDirectly rules (inner rules)
    (an_untagged_variant (list_view c.args.joined) alone) v) c.plus-direct.result =
    rw c.plus-direct.ensures
    (count_directly rules (inner rules) (list_view c.args.joined) alone v c.match-value.by_parts
    c.in_ok-by_itself.by_itself joined c.in_ok-by_itself.ensures.count) in
    if_last rules (inner rules) (list_view c.args.joined) alone v c.plus-direct.result
    c.count_fallbacks.result (c.is_none.ensures.0 c.if-not-is_none.false) direct
    c.count_fallbacks.ensures.count

-- ---- the variants of the name of an only member, one after another

pub variant::count_contents-count_target-requires :
    goal.variant::count_contents-count_target-requires
variant::count_contents-count_target-requires t c =
    let i : ℕ = c.loop-variant.variant-index in
    let there : slice_get c.args.variants.now i ≡ Some c.variant-item.result =
    slice_get_read c.args.variants.now (length c.args.variants.now) i c.variant-item.result refl
    c.loop-variant-test.true c.variant-item.is in
    let served : IsServed c.args.tables.now (target_view c.variant-item.result.content) =
    at_seen (λ (a : NamedVariant). IsServed c.args.tables.now a.content) named_view
    c.args.variants.now i c.variant-item.result there c.requires.1.1.1.1.1 in
    let falls = child_levels c.args.nodes.now c.args.node c.child-content.result 0
    c.args.tables.now.steps c.child-content.ensures.child (omega arith) in (
      omega arith,
      (
        c.loop-variant.invariant.sound,
        (
          c.child-content.ensures.in_range,
          (
            served,
            ranked_target c.args.tables.now (target_view c.variant-item.result.content)
                c.requires.1.1.0.tables served,
          ),
        ),
      ),
    )

pub variant::count_contents-loop-variant-preserved :
    goal.variant::count_contents-loop-variant-preserved
variant::count_contents-loop-variant-preserved t c =
    let i : ℕ = c.loop-variant.variant-index in
    let there : slice_get (map named_view c.args.variants.now) i
    ≡ Some (named_view c.variant-item.result) =
    seen_at named_view c.args.variants.now i c.variant-item.result
    (slice_get_read c.args.variants.now (length c.args.variants.now) i c.variant-item.result refl
    c.loop-variant-test.true c.variant-item.is) in
    elim c.if-eq.branch [
      | variant::count_contents-then-eq+in_ok-next w ↦
          let same : c.variant-item.result.name.now ≡ c.args.name.now = search basic in record {
            sound = rw w.memo-is w.in_ok-next.ensures.sound;
            counted = rw (w.count-is, w.plus-count.ensures)
                (count_named_more (ReadsValue (rules_at c.args.tables.now))
                (map named_view c.args.variants.now)
                (record {
                  name = c.args.name.now;
                  value = value_of c.args.nodes.now c.child-content.result;
                }) i (named_view c.variant-item.result) c.loop-variant.count w.in_ok-next.next there
                same c.loop-variant.invariant.counted w.in_ok-next.ensures.count);
          }
      | variant::count_contents-else-eq w ↦
          let differ : c.variant-item.result.name.now ≡ c.args.name.now → ⊥ =
          λ e. search (basic, e) in record {
            sound = rw w.memo-is c.loop-variant.invariant.sound;
            counted = rw w.count-is
                (count_named_same (ReadsValue (rules_at c.args.tables.now))
                (map named_view c.args.variants.now)
                (record {
                  name = c.args.name.now;
                  value = value_of c.args.nodes.now c.child-content.result;
                }) i (named_view c.variant-item.result) c.loop-variant.count there differ
                c.loop-variant.invariant.counted);
          }
    ]

pub variant::count_contents-returns-clause-count :
    goal.variant::count_contents-returns-clause-count
variant::count_contents-returns-clause-count t c =
    let v : Tree = value_of c.args.nodes.now c.args.node in
    let reads : Reads = ReadsValue (rules_at c.args.tables.now) in
    let variants : List NamedVariant = map named_view c.args.variants.now in
    subst (λ u. Counted (ReadsNamedVariant reads variants u) c.loop-variant.count)
    (sym c.requires.1.1.1.1.0.is_object)
    (count_named_all reads variants c.requires.1.1.1.1.0.members
    (record {
      name = c.args.name.now;
      value = value_of c.args.nodes.now c.child-content.result;
    }) c.loop-variant.variant-index c.loop-variant.count
    (only_child v c.args.name.now (value_of c.args.nodes.now c.child-content.result)
    c.requires.1.1.1.1.0 c.child-content.ensures.child)
    (omega (arith, length-map c.args.variants.now named_view)) c.loop-variant.invariant.counted)

-- ---- a variant that a value names

pub variant::count_named-count_contents-requires :
    goal.variant::count_named-count_contents-requires
variant::count_named-count_contents-requires t c =
    let v : Tree = value_of c.args.nodes.now c.args.node in
    let tree : v ≡ object (members_view c.as_slice.result.now) =
    sym c.value.ensures ∙ (ap view c.in-Object.is ∙ (seen_object c.in-Object.members
    ∙ ap (λ xs. object (members_view xs)) (sym c.as_slice.ensures.value))) in (
      omega arith,
      (
        c.requires.sound,
        (
          c.requires.inside,
          (
            only_member v c.as_slice.result.now c.index-name-0.result tree (omega arith),
            c.requires.served,
          ),
        ),
      ),
    )

pub variant::count_named-returns-in_default-as_slice-clause-count :
    goal.variant::count_named-returns-in_default-as_slice-clause-count
variant::count_named-returns-in_default-as_slice-clause-count t c =
    let reads : Reads = ReadsValue (rules_at c.args.tables.now) in
    let variants : List NamedVariant = map named_view c.args.variants.now in
    let tree : value_of c.args.nodes.now c.args.node ≡ object (members_view c.as_slice.result.now) =
    sym c.value.ensures ∙ (ap view c.in-Object.is ∙ (seen_object c.in-Object.members
    ∙ ap (λ xs. object (members_view xs)) (sym c.as_slice.ensures.value))) in
    subst (λ u. Counted (ReadsNamedVariant reads variants u) NoCount) (sym tree)
    (count_of_other_members reads variants (members_view c.as_slice.result.now)
    (λ one. absurd (omega (
      arith,
      ap length (seen_members c.as_slice.result.now),
      length-map c.as_slice.result.now member_seen,
    ))))

pub variant::count_named-returns-in_default-as_slice-2-clause-count :
    goal.variant::count_named-returns-in_default-as_slice-2-clause-count
variant::count_named-returns-in_default-as_slice-2-clause-count t c =
    let reads : Reads = ReadsValue (rules_at c.args.tables.now) in
    let variants : List NamedVariant = map named_view c.args.variants.now in
    let tree : value_of c.args.nodes.now c.args.node ≡ object (members_view c.as_slice.result.now) =
    sym c.value.ensures ∙ (ap view c.in-Object.is ∙ (seen_object c.in-Object.members
    ∙ ap (λ xs. object (members_view xs)) (sym c.as_slice.ensures.value))) in
    subst (λ u. Counted (ReadsNamedVariant reads variants u) NoCount) (sym tree)
    (count_of_other_members reads variants (members_view c.as_slice.result.now)
    (λ one. absurd (omega (
      arith,
      ap length (seen_members c.as_slice.result.now),
      length-map c.as_slice.result.now member_seen,
    ))))
