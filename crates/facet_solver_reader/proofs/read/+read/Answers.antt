-- What is told of the only reading of a value is what its parts are told.
use Rattle.std.proofs.Common.{◌≡◌, ◌∙◌, sym, ap, subst, refl, ℕ, suc, ◌+◌, ◌-◌, ◌<◌, ◌≤◌, List, []}
use Rattle.std.proofs.Common.{◌∷◌, map, length, Some, slice_get, zip, take, true, false, arith}
use Rattle.std.proofs.Common.{take_all, ◌++◌, Bor, IsTrue, None, option_map, Ok, get_or, inl, inr}
use Rattle.std.proofs.lemmas.List.{length-map, map-append}
use Rattle.std.proofs.lemmas.Option.{slice_get_read, slice_get_within, get_or_from_slice_get}
use Rattle.std.proofs.lemmas.Slice.Zip.{length-zip}
use Rattle.facet_solver_reader.specs.declared.count.Count.TheVariants.{One}
use Rattle.facet_solver_reader.specs.declared.reading.ReadingKind.TheViews.{roll-Reading}
use Rattle.facet_solver_reader.specs.Choices.{a_value}
use Rattle.facet_solver_reader.specs.Counted.{Counted, IsOnly}
use Rattle.facet_solver_reader.specs.Documents.{Member, Tree, items_view, list, members_view, null}
use Rattle.facet_solver_reader.specs.Documents.{object, view}
use Rattle.facet_solver_reader.specs.Kinds.{is_null, is_object, is_list}
use Rattle.facet_solver_reader.specs.Nodes.{children, members_in, value_of}
use Rattle.facet_solver_reader.specs.Parts.{ListId, of_content, of_shape, of_tag, a_catch_all}
use Rattle.facet_solver_reader.specs.Parts.{a_member}
use Rattle.facet_solver_reader.specs.Reached.{IsRanked}
use Rattle.facet_solver_reader.specs.Reading.{IsCount, IsRankedAlternative, IsListed, object_view}
use Rattle.facet_solver_reader.specs.Reading.{IsListCount, IsPartCount}
use Rattle.facet_solver_reader.specs.Reading.{member_view as member_view_of}
use Rattle.facet_solver_reader.specs.Readings.{ReadsValue, inner}
use Rattle.facet_solver_reader.specs.Rules.{Alternative, End, NamedVariant, Rules, a_list, a_map}
use Rattle.facet_solver_reader.specs.Rules.{a_named_variant, a_tuple, an_object, an_option}
use Rattle.facet_solver_reader.specs.Rules.{an_untagged_variant, as_object, as_shape, as_tuple}
use Rattle.facet_solver_reader.specs.Rules.{no_content}
use Rattle.facet_solver_reader.specs.Tables.{ContentIsServed, EndIsServed, IsServed, ShapeIsServed}
use Rattle.facet_solver_reader.specs.Tables.{rules_at, PartIsServed}
use Rattle.facet_solver_reader.specs.Told.{end_of_target, inside, texts, AreUnknown, IsTold}
use Rattle.facet_solver_reader.specs.Told.{TellsRest, TellsTaken, end_taken, rest_in, ValueAs}
use Rattle.facet_solver_reader.specs.ToldAt.{IsToldAlternative, IsToldAs, IsToldAt, IsToldBy}
use Rattle.facet_solver_reader.specs.ToldAt.{IsUntagged, ReadsByAlternative, IsOnlyAlternative}
use Rattle.facet_solver_reader.specs.ToldAt.{IsRead}
use Rattle.facet_solver_reader.specs.Values.{ReadsContent, ReadsEnd, ReadsEntry, ReadsPlace}
use Rattle.facet_solver_reader.specs.Values.{ReadsNamedVariant, ReadsNoContent, ReadsScalar}
use Rattle.facet_solver_reader.specs.Values.{ReadsTag, is_scalar_end}
use Rattle.facet_solver_reader.specs.Views.{alternative_view, content_view, end_view, kind_view}
use Rattle.facet_solver_reader.specs.Views.{list_view, named_view, target_view, catch_all_view}
use Rattle.facet_solver_reader.specs.Views.{member_view}
use Rattle.facet_solver_reader.proofs.Counting.{counted_same}
use Rattle.facet_solver_reader.proofs.CountedResults.{tuple_content, object_content_one}
use Rattle.facet_solver_reader.proofs.CountedResults.{object_end_one}
use Rattle.facet_solver_reader.proofs.InMemory.{at_index, at_seen, list_length, member_at}
use Rattle.facet_solver_reader.proofs.InMemory.{null_seen, object_children, object_length}
use Rattle.facet_solver_reader.proofs.InMemory.{scalar_rest, member_there, only_member}
use Rattle.facet_solver_reader.proofs.Levels.{child_levels}
use Rattle.facet_solver_reader.proofs.OneEach.{one_at, one_before, one_value_before}
use Rattle.facet_solver_reader.proofs.OneEnds.{items_is_list, one_entries, one_inside, one_items}
use Rattle.facet_solver_reader.proofs.OneEnds.{one_places, option_reads, told_content, by_content}
use Rattle.facet_solver_reader.proofs.OneEnds.{by_end, read_by_content, read_by_end}
use Rattle.facet_solver_reader.proofs.Ranks.{ranked_content, ranked_inside, ranked_tag}
use Rattle.facet_solver_reader.proofs.Readings.{value_by_parts}
use Rattle.facet_solver_reader.proofs.Seen.{seen_at, seen_list, seen_no_null, seen_no_object}
use Rattle.facet_solver_reader.proofs.Seen.{seen_null, seen_object, member_seen, seen_members}
use Rattle.facet_solver_reader.proofs.TableRanks.{rank_some, ranked_alternatives, ranked_shape}
use Rattle.facet_solver_reader.proofs.TableRanks.{ranked_target}
use Rattle.facet_solver_reader.proofs.ToldEach.{EachTold, all_told, more_told, none_told}
use Rattle.facet_solver_reader.proofs.ToldSeveral.{entries_told, items_told, names_more, tuple_told}
use Rattle.facet_solver_reader.proofs.ToldSeveral.{zip_at}
use Rattle.facet_solver_reader.proofs.ToldValues.{content_has_one, content_reads, joined_reads}
use Rattle.facet_solver_reader.proofs.ToldValues.{object_has_one, object_reads, scalar_value}
use Rattle.facet_solver_reader.proofs.ToldValues.{tells_as_it_is, tells_joined, tells_object}
use Rattle.facet_solver_reader.proofs.ToldValues.{told_as_it_is, read_counted, tag_text}
use Rattle.facet_solver_reader.proofs.ToldVariants.{alternative_told, joined_one, member_told}
use Rattle.facet_solver_reader.proofs.ToldVariants.{one_alternative, reads_by_content, tells_same}
use Rattle.facet_solver_reader.proofs.ToldVariants.{variant_within}
use Rattle.facet_solver_reader.specs.declared.reading.ObjectReading.{ObjectReading}
use Rattle.facet_solver_shape.specs.Names.{Name}
use Rattle.facet_solver_reader.specs.Branches.{ReadsPart, ReadsList}
use Rattle.facet_solver_reader.specs.Known.{named}
use Rattle.facet_solver_reader.specs.Objects.{IsUnknown, ReadsObject, Takes, TakesRest}
use Rattle.facet_solver_reader.specs.Planned.{StepIsServed, step_view}
use Rattle.facet_solver_reader.specs.ToldObjects.{AreOnlyMembers, AreToldFields, IsToldField}
use Rattle.facet_solver_reader.specs.ToldObjects.{IsToldTaken, AreOnlyRests, AreToldRests}
use Rattle.facet_solver_reader.specs.ToldObjects.{IsOnlyRest, IsToldFirst, IsToldSoFar}
use Rattle.facet_solver_reader.proofs.CountingLists.{child_of_member, found_levels, passing_more}
use Rattle.facet_solver_reader.proofs.CountingLists.{taken_more}
use Rattle.facet_solver_reader.proofs.CountingObjects.{itself, known_by_list, seen_read}
use Rattle.facet_solver_reader.proofs.CountingObjects.{unknown_by_list}
use Rattle.facet_solver_reader.proofs.OneObject.{object_by, one_by_list}
use Rattle.facet_solver_reader.proofs.OneParts.{anything_taken, entry_taken, field_absent}
use Rattle.facet_solver_reader.proofs.OneParts.{field_there, one_of_entry, one_of_member, one_rest}
use Rattle.facet_solver_reader.proofs.OneParts.{rest_told, one_of_value}
use Rattle.facet_solver_reader.proofs.Quantifiers.{all_at, all_upto_more}
use Rattle.facet_solver_reader.proofs.ToldMembers.{TakenTold, more_field, more_passed, more_taken}
use Rattle.facet_solver_reader.proofs.ToldMembers.{no_field_more, none_told as nothing_taken}
use Rattle.facet_solver_reader.proofs.ToldMembers.{one_taken_at}
use Rattle.facet_solver_reader.proofs.UnknownNames.{unknown_told, are_unknown}
use Rattle.facet_solver_reader.proofs.ToldObject.{member_at as planned_member_at, members_of_plan}
use Rattle.facet_solver_reader.proofs.ToldObject.{no_member, rest_is_ignored, rest_is_taken}
use Rattle.facet_solver_reader.proofs.ToldObject.{told_by_plan}
use Rattle.facet_solver_reader.proofs.NamedOnce.{IsIndexOf, as_member, index_named, index_within}
use Rattle.facet_solver_reader.proofs.NamedOnce.{into_named, member_once}
use Rattle.facet_solver_reader.proofs.ByEnd.{count_of_absent, count_of_present}
use Rattle.facet_solver_reader.proofs.CatchAlls.{count_of_anything, count_of_catch_all}
use Rattle.facet_solver_reader.proofs.CatchAlls.{count_of_entry as count_of_taken_entry, count_of_no_rest}
use Rattle.facet_solver_reader.proofs.Tuples.{count_of_entry}
use Rattle.facet_solver_reader.proofs.Members.{count_of_lacking}
use Rattle.facet_solver_reader.proofs.Each.{count_of_none, count_up_to_all, count_up_to_at}
use Rattle.facet_solver_reader.proofs.NamedVariants.{count_of_other_members}
use Rattle.facet_solver_reader.proofs.JoinedOnce.{joined_end_one}
use Rattle.facet_solver_reader.proofs.CountingValues.{list_end, map_end, tuple_end, scalar_count}
use Rattle.facet_solver_reader.proofs.FirstRest.{no_rest_at}
use Rattle.facet_solver_reader.proofs.ToldRests.{no_rest_only, none_some, some_some, rest_at}
use Rattle.facet_solver_reader.proofs.ToldRests.{rest_first, rest_kept, rest_passed, rests_of_plan}
use Rattle.facet_solver_reader.proofs.ToldRests.{steps_only, told_only}
use Rattle.facet_solver_reader.proofs.ReadOnce.{not_one_of, not_one_then, read_as, read_err}
use Rattle.facet_solver_reader.proofs.ReadOnce.{same_one}
use Rattle.std.specs.Option.{option_or}
use Rattle.facet_solver_reader.proofs.read.+read.Goals.{members::read_fields-in-Field+in_ok-reading+in_ok-push}
use Rattle.facet_solver_reader.proofs.read.+read.Goals.{members::read_fields-in_default}
use Rattle.facet_solver_reader.proofs.read.+read.Goals.{members::read_rest-then-not-has_name+in_ok-reading+in_ok-push+in_ok-push-2}
use Rattle.facet_solver_reader.proofs.read.+read.Goals.{members::read_rest-else-not-has_name}
use Rattle.facet_solver_reader.proofs.read.+read.Goals.{members::read_rests-in-Rest+in_ok-rest+then-is_none}
use Rattle.facet_solver_reader.proofs.read.+read.Goals.{members::read_rests-in-Rest+in_ok-rest+else-is_none}
use Rattle.facet_solver_reader.proofs.read.+read.Goals.{members::read_rests-in_default}
use Rattle.facet_solver_reader.proofs.read.+read.Goals.{object::read_steps-in-Some}
use Rattle.facet_solver_reader.proofs.read.+read.Goals.{object::read_steps-in-None+in_ok-ignored-in-None}
use Rattle.facet_solver_reader.proofs.read.+read.Goals.{untagged::read_alternative-in-Null}
use Rattle.facet_solver_reader.proofs.read.+read.Goals.{untagged::read_alternative-in_default+in_ok-reading-in_default}
use Rattle.facet_solver_reader.proofs.read.+read.Goals.{untagged::read_untagged-in-Object}
use Rattle.facet_solver_reader.proofs.read.+read.Goals.{untagged::read_untagged-in_default}
use Rattle.facet_solver_reader.proofs.read.+read.Goals.{variant::read_member-in-Some}
use Rattle.facet_solver_reader.proofs.read.+read.Goals.{variant::read_member-in-None+in_ok-k-in-None}
use Rattle.facet_solver_reader.specs.declared.end.Alternative as code_alternative
use Rattle.facet_solver_reader.specs.declared.reading.Reading as code_reading
use Rattle.facet_solver_reader.specs.Choices as choices
use Rattle.facet_solver_reader.specs.Rules as types
use Rattle.facet_solver_reader.proofs.read.+read.Goals as goal
use Rattle.facet_solver_reader.specs.Found as found
use Rattle.facet_solver_reader.specs.declared.count.Count.TheVariants.{None as NoCount}
use Rattle.facet_solver_reader.specs.Planned as planned
use Rattle.facet_solver_reader.specs.declared.reading.ReadingKind.TheVariants as kinds
use Rattle.facet_solver_reader.specs.Reading.{IsOnlyMember}
use Rattle.facet_solver_reader.specs.declared.document.Document.{Document}

pub content::read_content-returns-in-None-clause-told :
    goal.content::read_content-returns-in-None-clause-told
content::read_content-returns-in-None-clause-told t c =
    let tb = c.args.tables.now in
    let rules : Rules = rules_at tb in
    let v : Tree = value_of c.args.nodes.now c.args.node in
    let is : rules.content_of c.args.shape c.args.variant ≡ no_content =
    sym c.in_ok-content.ensures ∙ ap content_view c.in-None.is in
    read_counted tb c.args.nodes.now c.args.node (of_content c.args.shape c.args.variant)
    (ReadsNoContent v) c.count_no_content.result c.value-value.result c.as_counted.result
    c.value-value.ensures
    (by_content rules c.args.steps c.args.shape c.args.variant no_content v c.requires.ranked is)
    (λ q p. p.1)
    (subst (λ u. Counted (ReadsNoContent u) c.count_no_content.result) c.value-value.ensures
    c.count_no_content.ensures)
    c.as_counted.ensures

pub content::read_content-read_shape-requires :
    goal.content::read_content-read_shape-requires
content::read_content-read_shape-requires t c =
    let tb = c.args.tables.now in
    let rules : Rules = rules_at tb in
    let v : Tree = value_of c.args.nodes.now c.args.node in
    let is : rules.content_of c.args.shape c.args.variant ≡ as_shape c.in-Shape.inside =
    sym c.in_ok-content.ensures ∙ ap content_view c.in-Shape.is in
    let steps : 0 < c.args.steps =
    rank_some rules c.args.steps (of_content c.args.shape c.args.variant) c.requires.ranked in
    let more : c.args.steps ≡ suc (c.args.steps - 1) = omega arith in (
      omega arith,
      (
        c.requires.sound,
        (
          c.requires.inside,
          (
            subst (ContentIsServed tb) is c.requires.served,
            ranked_content rules (c.args.steps - 1) c.args.shape c.args.variant c.in-Shape.inside
                (subst (λ n. IsRanked n rules (of_content c.args.shape c.args.variant)) more
                c.requires.ranked) is,
          ),
        ),
      ),
    )

pub content::read_content-returns-in-Shape-clause-told :
    goal.content::read_content-returns-in-Shape-clause-told
content::read_content-returns-in-Shape-clause-told t c =
    let tb = c.args.tables.now in
    let rules : Rules = rules_at tb in
    let v : Tree = value_of c.args.nodes.now c.args.node in
    let is : rules.content_of c.args.shape c.args.variant ≡ as_shape c.in-Shape.inside =
    sym c.in_ok-content.ensures ∙ ap content_view c.in-Shape.is in
    read_by_content tb c.args.nodes.now c.args.node c.args.steps c.args.shape c.args.variant
    (as_shape c.in-Shape.inside)
    (IsToldAt tb c.args.nodes.now c.args.node (of_shape c.in-Shape.inside))
    (IsCount tb c.args.nodes.now c.args.node (of_shape c.in-Shape.inside) One)
    c.read_shape.result c.requires.ranked is
    (λ w one h.
    told_content tb c.args.nodes.now c.args.node c.args.steps c.args.shape c.args.variant
    (as_shape c.in-Shape.inside) h.reading w c.requires.ranked is h.reads
    (inside c.in-Shape.inside v h.reading w.variants.items w.kind h.tells))
    (λ one. one) (λ one. one) c.read_shape.ensures.told

pub content::read_content-read_tuple-requires :
    goal.content::read_content-read_tuple-requires
content::read_content-read_tuple-requires t c =
    let tb = c.args.tables.now in
    let rules : Rules = rules_at tb in
    let v : Tree = value_of c.args.nodes.now c.args.node in
    let is : rules.content_of c.args.shape c.args.variant ≡ as_tuple c.deref.result.now =
    sym c.in_ok-content.ensures ∙ (ap content_view c.in-Tuple.is
    ∙ ap as_tuple (sym c.deref.ensures.value)) in (
      omega arith,
      (
        c.requires.sound,
        (c.requires.inside, subst (ContentIsServed tb) is c.requires.served),
      ),
    )

pub content::read_content-returns-in-Tuple-clause-told :
    goal.content::read_content-returns-in-Tuple-clause-told
content::read_content-returns-in-Tuple-clause-told t c =
    let tb = c.args.tables.now in
    let rules : Rules = rules_at tb in
    let v : Tree = value_of c.args.nodes.now c.args.node in
    let is : rules.content_of c.args.shape c.args.variant ≡ as_tuple c.deref.result.now =
    sym c.in_ok-content.ensures ∙ (ap content_view c.in-Tuple.is
    ∙ ap as_tuple (sym c.deref.ensures.value)) in
    let same = same_one (ReadsEnd rules (inner rules) (a_tuple c.deref.result.now) v)
    (ReadsContent rules (inner rules) (as_tuple c.deref.result.now) v)
    (tuple_content rules (inner rules) c.deref.result.now v) in
    read_by_content tb c.args.nodes.now c.args.node c.args.steps c.args.shape c.args.variant
    (as_tuple c.deref.result.now)
    (IsToldAs tb c.args.nodes.now c.args.node (a_tuple c.deref.result.now))
    (Counted (ReadsEnd rules (inner rules) (a_tuple c.deref.result.now) v) One)
    c.read_tuple.result c.requires.ranked is
    (λ w one h.
    told_content tb c.args.nodes.now c.args.node c.args.steps c.args.shape c.args.variant
    (as_tuple c.deref.result.now) h.reading w c.requires.ranked is
    ((tuple_content rules (inner rules) c.deref.result.now v h.reading).0 h.reads) h.tells)
    same.0 same.1 c.read_tuple.ensures.told

pub content::read_content-returns-in-Object-value-clause-told :
    goal.content::read_content-returns-in-Object-value-clause-told
content::read_content-returns-in-Object-value-clause-told t c =
    let tb = c.args.tables.now in
    let rules : Rules = rules_at tb in
    let v : Tree = value_of c.args.nodes.now c.args.node in
    let is : rules.content_of c.args.shape c.args.variant ≡ as_object (list_view c.in-Object.list) =
    sym c.in_ok-content.ensures ∙ ap content_view c.in-Object.is in
    let id : ListId = list_view c.in-Object.list in
    let so : is_object v ≡ true =
    ap is_object (sym c.value.ensures ∙ (ap view c.in-Object-value.is
    ∙ seen_object c.in-Object-value.field-0)) in
    read_by_content tb c.args.nodes.now c.args.node c.args.steps c.args.shape c.args.variant
    (as_object id) (IsToldBy tb c.args.nodes.now c.args.node id)
    (Counted (ReadsObject rules (ReadsValue rules) id (members_in v)) One)
    c.read_object.result c.requires.ranked is
    (λ w one h.
    told_content tb c.args.nodes.now c.args.node c.args.steps c.args.shape c.args.variant
    (as_object id) (choices.an_object h.choice) w c.requires.ranked is
    (content_reads rules (inner rules) id v h.choice so h.reads)
    (tells_object rules tb.shapes.now id h.object h.values h.rest v h.choice w.variants.items w.kind
    so h.variants_are h.kind_is h.tells))
    (object_content_one rules (inner rules) id v so)
    (λ one. (content_has_one rules (inner rules) id v one).1) c.read_object.ensures.told

pub content::read_content-returns :
    goal.content::read_content-returns
content::read_content-returns t c =
    let tb = c.args.tables.now in
    let rules : Rules = rules_at tb in
    let v : Tree = value_of c.args.nodes.now c.args.node in
    let is : rules.content_of c.args.shape c.args.variant ≡ as_object (list_view c.in-Object.list) =
    sym c.in_ok-content.ensures ∙ ap content_view c.in-Object.is in
    let id : ListId = list_view c.in-Object.list in
    let is_not : is_object v ≡ false =
    ap is_object (sym c.value.ensures)
    ∙ seen_no_object c.value.result.now c.in_default.not-Object in
    record {
      sound = c.requires.sound;
      told = λ one.
          let as_content = (same_one (ReadsValue rules (of_content c.args.shape c.args.variant) v)
          (ReadsContent rules (inner rules) (as_object id) v)
          (by_content rules c.args.steps c.args.shape c.args.variant (as_object id) v
          c.requires.ranked is)).0 one in
          let so = (content_has_one rules (inner rules) id v as_content).0 in absurd (cc);
    }

pub each::read_entries-loop-index-init :
    goal.each::read_entries-loop-index-init
each::read_entries-loop-index-init t c =
    let tb = c.args.tables.now in
    let rules : Rules = rules_at tb in
    let v : Tree = value_of c.args.nodes.now c.args.node in
    let P = ReadsEntry (rules.is_key c.args.key) (ReadsValue rules) (of_shape c.args.value) in
    let f : Member → ValueAs = λ m. (rules.end_of c.args.value, m.value) in
    record {
      sound = c.requires.sound;
      named = ap texts c.in_ok-names.ensures.items;
      told = subst (EachTold rules tb.shapes.now P f []) (sym c.in_ok-values.ensures.items)
          (none_told rules tb.shapes.now P f);
      one = count_of_none P;
    }

pub each::read_entries-returns-then-not-is_key-clause-told :
    goal.each::read_entries-returns-then-not-is_key-clause-told
each::read_entries-returns-then-not-is_key-clause-told t c =
    let tb = c.args.tables.now in
    let rules : Rules = rules_at tb in
    let v : Tree = value_of c.args.nodes.now c.args.node in
    let P = ReadsEntry (rules.is_key c.args.key) (ReadsValue rules) (of_shape c.args.value) in
    let f : Member → ValueAs = λ m. (rules.end_of c.args.value, m.value) in
    let tree : v ≡ object (members_view c.in-Object.members.items) =
    sym c.value.ensures ∙ (ap view c.in-Object.is ∙ seen_object c.in-Object.members) in
    let there : slice_get c.in-Object.members.items c.loop-index.index ≡ Some c.index.result.now =
    slice_get_read c.in-Object.members.items (length c.in-Object.members.items) c.loop-index.index
    c.index.result.now refl (omega arith) c.index.ensures in
    let here = member_there v c.in-Object.members.items c.loop-index.index c.index.result.now tree
    there in
    let no_key : rules.is_key c.args.key c.index.result.now.0.now ≡ false =
    sym c.is_key.ensures ∙ c.if-not-is_key.true in
    λ one.
    let entry = one_at P (members_in v) c.loop-index.index (member_seen c.index.result.now) here
    (one_entries rules (inner rules) c.args.key c.args.value v one) in
    let key : rules.is_key c.args.key c.index.result.now.0.now ≡ true = entry.has.0 in absurd (cc)

pub each::read_entries-child-member-requires-clause-index_in_range :
    goal.each::read_entries-child-member-requires-clause-index_in_range
each::read_entries-child-member-requires-clause-index_in_range t c =
    let tb = c.args.tables.now in
    let rules : Rules = rules_at tb in
    let v : Tree = value_of c.args.nodes.now c.args.node in
    let tree : v ≡ object (members_view c.in-Object.members.items) =
    sym c.value.ensures ∙ (ap view c.in-Object.is ∙ seen_object c.in-Object.members) in
    omega (
      arith,
      object_children v (ap is_object tree),
      object_length v c.in-Object.members.items tree,
    )

pub each::read_entries-read_shape-requires :
    goal.each::read_entries-read_shape-requires
each::read_entries-read_shape-requires t c =
    let tb = c.args.tables.now in
    let rules : Rules = rules_at tb in
    let v : Tree = value_of c.args.nodes.now c.args.node in
    let falls = child_levels c.args.nodes.now c.args.node c.child-member.result c.loop-index.index
    tb.steps c.child-member.ensures.child (omega arith) in (
      omega arith,
      (
        c.loop-index.invariant.sound,
        (
          c.child-member.ensures.in_range,
          (
            c.requires.served,
            ranked_shape tb c.args.value c.requires.sound.tables c.requires.served,
          ),
        ),
      ),
    )

pub each::read_entries-keep_read-requires-clause-once :
    goal.each::read_entries-keep_read-requires-clause-once
each::read_entries-keep_read-requires-clause-once t c =
    let tb = c.args.tables.now in
    let rules : Rules = rules_at tb in
    let v : Tree = value_of c.args.nodes.now c.args.node in
    let tree : v ≡ object (members_view c.in-Object.members.items) =
    sym c.value.ensures ∙ (ap view c.in-Object.is ∙ seen_object c.in-Object.members) in
    λ i w less there.
    one_value_before (λ x. IsTrue (rules.is_key c.args.key x))
    (ReadsValue rules (of_shape c.args.value)) (members_in v) c.loop-index.index i w less
    (ap (λ u. slice_get (map (λ m. m.value) (members_in u)) i) tree
    ∙ sym (ap (λ u. slice_get (children u) i) tree) ∙ there)
    c.loop-index.invariant.one

pub each::read_entries-returns-in-Err-clause-told :
    goal.each::read_entries-returns-in-Err-clause-told
each::read_entries-returns-in-Err-clause-told t c =
    let tb = c.args.tables.now in
    let rules : Rules = rules_at tb in
    let v : Tree = value_of c.args.nodes.now c.args.node in
    let P = ReadsEntry (rules.is_key c.args.key) (ReadsValue rules) (of_shape c.args.value) in
    let f : Member → ValueAs = λ m. (rules.end_of c.args.value, m.value) in
    let tree : v ≡ object (members_view c.in-Object.members.items) =
    sym c.value.ensures ∙ (ap view c.in-Object.is ∙ seen_object c.in-Object.members) in
    let there : slice_get c.in-Object.members.items c.loop-index.index ≡ Some c.index.result.now =
    slice_get_read c.in-Object.members.items (length c.in-Object.members.items) c.loop-index.index
    c.index.result.now refl (omega arith) c.index.ensures in
    let w : Tree = value_of c.args.nodes.now c.child-member.result in
    let m : Member = record { name = c.index.result.now.0.now; value = w } in
    let here : slice_get (members_in v) c.loop-index.index ≡ Some m =
    member_at v c.in-Object.members.items c.loop-index.index c.index.result.now w tree there
    c.child-member.ensures.child in
    let key : rules.is_key c.args.key c.index.result.now.0.now ≡ true =
    sym c.is_key.ensures ∙ c.if-not-is_key.false in
    not_one_then c.in-Err.error (Counted (ReadsValue rules (of_shape c.args.value) w) One)
    (Counted (ReadsEnd rules (inner rules) (a_map c.args.key c.args.value) v) One)
    (λ one.
    let entry = one_at P (members_in v) c.loop-index.index m here
    (one_entries rules (inner rules) c.args.key c.args.value v one) in
    counted_same (P m) (ReadsValue rules (of_shape c.args.value) w) One (λ r p. p.1)
    (λ r p. (entry.has.0, p)) entry)
    c.in-Err.ensures.told

pub each::read_entries-loop-index-preserved :
    goal.each::read_entries-loop-index-preserved
each::read_entries-loop-index-preserved t c =
    let tb = c.args.tables.now in
    let rules : Rules = rules_at tb in
    let v : Tree = value_of c.args.nodes.now c.args.node in
    let P = ReadsEntry (rules.is_key c.args.key) (ReadsValue rules) (of_shape c.args.value) in
    let f : Member → ValueAs = λ m. (rules.end_of c.args.value, m.value) in
    let tree : v ≡ object (members_view c.in-Object.members.items) =
    sym c.value.ensures ∙ (ap view c.in-Object.is ∙ seen_object c.in-Object.members) in
    let there : slice_get c.in-Object.members.items c.loop-index.index ≡ Some c.index.result.now =
    slice_get_read c.in-Object.members.items (length c.in-Object.members.items) c.loop-index.index
    c.index.result.now refl (omega arith) c.index.ensures in
    let w : Tree = value_of c.args.nodes.now c.child-member.result in
    let m : Member = record { name = c.index.result.now.0.now; value = w } in
    let here : slice_get (members_in v) c.loop-index.index ≡ Some m =
    member_at v c.in-Object.members.items c.loop-index.index c.index.result.now w tree there
    c.child-member.ensures.child in
    let key : rules.is_key c.args.key c.index.result.now.0.now ≡ true =
    sym c.is_key.ensures ∙ c.if-not-is_key.false in
    let told = c.in-Ok.ensures.told.1 in
    record {
      sound = c.in-Ok.ensures.sound;
      named = ap texts c.in_ok-push.ensures.items
          ∙ names_more c.loop-index.names.items c.index.result.now.0 (members_in v)
          c.loop-index.index m here refl c.loop-index.invariant.named;
      told = subst (EachTold rules tb.shapes.now P f
          (take (c.loop-index.index + 1) (members_in v))) (sym c.in_ok-push-in-Ok.ensures)
          (more_told rules tb.shapes.now P f (members_in v) c.loop-index.index m
          c.loop-index.values.items told.reading c.in-Ok.reading here
          c.loop-index.invariant.told (key, told.reads) told.tells);
      one = count_up_to_at P (members_in v) c.loop-index.index m One One here
          c.loop-index.invariant.one
          (count_of_entry (rules.is_key c.args.key) (ReadsValue rules) (of_shape c.args.value) m One
          key c.in-Ok.ensures.told.0);
    }

pub each::read_entries-returns-clause-told :
    goal.each::read_entries-returns-clause-told
each::read_entries-returns-clause-told t c =
    let tb = c.args.tables.now in
    let rules : Rules = rules_at tb in
    let v : Tree = value_of c.args.nodes.now c.args.node in
    let P = ReadsEntry (rules.is_key c.args.key) (ReadsValue rules) (of_shape c.args.value) in
    let f : Member → ValueAs = λ m. (rules.end_of c.args.value, m.value) in
    let tree : v ≡ object (members_view c.in-Object.members.items) =
    sym c.value.ensures ∙ (ap view c.in-Object.is ∙ seen_object c.in-Object.members) in
    let all : length (members_in v) ≤ c.loop-index.index =
    omega (arith, object_length v c.in-Object.members.items tree) in (
      map_end rules (inner rules) c.args.key c.args.value v One (ap is_object tree)
          (count_up_to_all P (members_in v) c.loop-index.index One all c.loop-index.invariant.one),
      entries_told tb c.args.nodes.now c.args.node c.plain.result c.plain.ensures.variants
          c.args.key c.args.value c.loop-index.names c.loop-index.values (ap is_object tree)
          c.plain.ensures.kind
          (subst (λ (ms : List Member). texts c.loop-index.names.items ≡ map (λ m. m.name) ms)
          (take_all c.loop-index.index (members_in v) all) c.loop-index.invariant.named)
          (all_told rules tb.shapes.now P f (members_in v) c.loop-index.index
          c.loop-index.values.items all c.loop-index.invariant.told),
    )

pub each::read_items-loop-index-init :
    goal.each::read_items-loop-index-init
each::read_items-loop-index-init t c =
    let tb = c.args.tables.now in
    let rules : Rules = rules_at tb in
    let v : Tree = value_of c.args.nodes.now c.args.node in
    let P = ReadsValue rules (of_shape c.args.shape) in
    let f : Tree → ValueAs = λ w. (rules.end_of c.args.shape, w) in
    record {
      sound = c.requires.sound;
      told = subst (EachTold rules tb.shapes.now P f []) (sym c.in_ok-readings.ensures.items)
          (none_told rules tb.shapes.now P f);
      one = count_of_none P;
    }

pub each::read_items-child-item-requires-clause-index_in_range :
    goal.each::read_items-child-item-requires-clause-index_in_range
each::read_items-child-item-requires-clause-index_in_range t c =
    let tb = c.args.tables.now in
    let rules : Rules = rules_at tb in
    let v : Tree = value_of c.args.nodes.now c.args.node in
    let tree : v ≡ list (items_view c.in-List.items.items) =
    sym c.value.ensures ∙ (ap view c.in-List.is ∙ seen_list c.in-List.items) in
    omega (arith, list_length v c.in-List.items.items tree)

pub each::read_items-read_shape-requires :
    goal.each::read_items-read_shape-requires
each::read_items-read_shape-requires t c =
    let tb = c.args.tables.now in
    let rules : Rules = rules_at tb in
    let v : Tree = value_of c.args.nodes.now c.args.node in
    let falls = child_levels c.args.nodes.now c.args.node c.child-item.result c.loop-index.index
    tb.steps c.child-item.ensures.child (omega arith) in (
      omega arith,
      (
        c.loop-index.invariant.sound,
        (
          c.child-item.ensures.in_range,
          (
            c.requires.served,
            ranked_shape tb c.args.shape c.requires.sound.tables c.requires.served,
          ),
        ),
      ),
    )

pub each::read_items-keep_read-requires-clause-once :
    goal.each::read_items-keep_read-requires-clause-once
each::read_items-keep_read-requires-clause-once t c =
    let tb = c.args.tables.now in
    let v : Tree = value_of c.args.nodes.now c.args.node in
    λ i w less there.
    one_before (ReadsValue (rules_at tb) (of_shape c.args.shape)) (children v) c.loop-index.index
    i w less there c.loop-index.invariant.one

pub each::read_items-returns-in-Err-clause-told :
    goal.each::read_items-returns-in-Err-clause-told
each::read_items-returns-in-Err-clause-told t c =
    let tb = c.args.tables.now in
    let rules : Rules = rules_at tb in
    let v : Tree = value_of c.args.nodes.now c.args.node in
    let P = ReadsValue rules (of_shape c.args.shape) in
    let w : Tree = value_of c.args.nodes.now c.child-item.result in
    not_one_then c.in-Err.error (Counted (P w) One)
    (Counted (ReadsEnd rules (inner rules) (a_list c.args.shape) v) One)
    (λ one.
    one_at P (children v) c.loop-index.index w c.child-item.ensures.child
    (one_items rules (inner rules) c.args.shape v
    (items_is_list rules (inner rules) c.args.shape v one) one))
    c.in-Err.ensures.told

pub each::read_items-loop-index-preserved :
    goal.each::read_items-loop-index-preserved
each::read_items-loop-index-preserved t c =
    let tb = c.args.tables.now in
    let rules : Rules = rules_at tb in
    let v : Tree = value_of c.args.nodes.now c.args.node in
    let P = ReadsValue rules (of_shape c.args.shape) in
    let f : Tree → ValueAs = λ w. (rules.end_of c.args.shape, w) in
    let told = c.in-Ok.ensures.told.1 in
    record {
      sound = c.in-Ok.ensures.sound;
      told = subst (EachTold rules tb.shapes.now P f
          (take (c.loop-index.index + 1) (children v))) (sym c.in_ok-push-in-Ok.ensures)
          (more_told rules tb.shapes.now P f (children v) c.loop-index.index
          (value_of c.args.nodes.now c.child-item.result) c.loop-index.readings.items told.reading
          c.in-Ok.reading c.child-item.ensures.child c.loop-index.invariant.told told.reads
          told.tells);
      one = count_up_to_at P (children v) c.loop-index.index
          (value_of c.args.nodes.now c.child-item.result) One One c.child-item.ensures.child
          c.loop-index.invariant.one c.in-Ok.ensures.told.0;
    }

pub each::read_items-returns-clause-told :
    goal.each::read_items-returns-clause-told
each::read_items-returns-clause-told t c =
    let tb = c.args.tables.now in
    let rules : Rules = rules_at tb in
    let v : Tree = value_of c.args.nodes.now c.args.node in
    let P = ReadsValue rules (of_shape c.args.shape) in
    let f : Tree → ValueAs = λ w. (rules.end_of c.args.shape, w) in
    let tree : v ≡ list (items_view c.in-List.items.items) =
    sym c.value.ensures ∙ (ap view c.in-List.is ∙ seen_list c.in-List.items) in
    let all : length (children v) ≤ c.loop-index.index =
    omega (arith, list_length v c.in-List.items.items tree) in (
      list_end rules (inner rules) c.args.shape v One (ap is_list tree)
          (count_up_to_all P (children v) c.loop-index.index One all c.loop-index.invariant.one),
      items_told tb c.args.nodes.now c.args.node c.plain.result c.plain.ensures.variants
          c.args.shape c.loop-index.readings (ap is_list tree) c.plain.ensures.kind
          (all_told rules tb.shapes.now P f (children v) c.loop-index.index
          c.loop-index.readings.items all c.loop-index.invariant.told),
    )

pub each::read_tuple-returns-then-shapes-len-clause-told :
    goal.each::read_tuple-returns-then-shapes-len-clause-told
each::read_tuple-returns-then-shapes-len-clause-told t c =
    let tb = c.args.tables.now in
    let rules : Rules = rules_at tb in
    let v : Tree = value_of c.args.nodes.now c.args.node in
    let tree : v ≡ list (items_view c.in-List.items.items) =
    sym c.value.ensures ∙ (ap view c.in-List.is ∙ seen_list c.in-List.items) in
    let long = list_length v c.in-List.items.items tree in
    λ one.
    let same = (one_places rules (inner rules) c.args.shapes.now v one).0 in
    absurd (c.if-shapes-len.true (omega (arith, long, same)))

pub each::read_tuple-loop-index-init :
    goal.each::read_tuple-loop-index-init
each::read_tuple-loop-index-init t c =
    let tb = c.args.tables.now in
    let rules : Rules = rules_at tb in
    let v : Tree = value_of c.args.nodes.now c.args.node in
    let P = ReadsPlace (ReadsValue rules) in
    let f : ℕ × Tree → ValueAs = λ p. (rules.end_of p.0, p.1) in
    record {
      sound = c.requires.sound;
      told = subst (EachTold rules tb.shapes.now P f []) (sym c.in_ok-readings.ensures.items)
          (none_told rules tb.shapes.now P f);
      one = count_of_none P;
    }

pub each::read_tuple-child-item-requires-clause-index_in_range :
    goal.each::read_tuple-child-item-requires-clause-index_in_range
each::read_tuple-child-item-requires-clause-index_in_range t c =
    let tb = c.args.tables.now in
    let rules : Rules = rules_at tb in
    let v : Tree = value_of c.args.nodes.now c.args.node in
    let tree : v ≡ list (items_view c.in-List.items.items) =
    sym c.value.ensures ∙ (ap view c.in-List.is ∙ seen_list c.in-List.items) in
    omega (arith, list_length v c.in-List.items.items tree)

pub each::read_tuple-read_shape-requires :
    goal.each::read_tuple-read_shape-requires
each::read_tuple-read_shape-requires t c =
    let tb = c.args.tables.now in
    let rules : Rules = rules_at tb in
    let v : Tree = value_of c.args.nodes.now c.args.node in
    let there : slice_get c.args.shapes.now c.loop-index.index ≡ Some c.index-shapes-index.result =
    slice_get_read c.args.shapes.now (length c.args.shapes.now) c.loop-index.index
    c.index-shapes-index.result refl c.loop-index-test.true c.index-shapes-index.is in
    let pair : slice_get (zip c.args.shapes.now (children v)) c.loop-index.index
    ≡ Some (c.index-shapes-index.result, value_of c.args.nodes.now c.child-item.result) =
    zip_at c.args.shapes.now (children v) c.loop-index.index c.index-shapes-index.result
    (value_of c.args.nodes.now c.child-item.result) there c.child-item.ensures.child in
    let served : ShapeIsServed tb c.index-shapes-index.result =
    at_index (ShapeIsServed tb) c.args.shapes.now c.loop-index.index c.index-shapes-index.result
    there c.requires.served in
    let falls = child_levels c.args.nodes.now c.args.node c.child-item.result c.loop-index.index
    tb.steps c.child-item.ensures.child (omega arith) in (
      omega arith,
      (
        c.loop-index.invariant.sound,
        (
          c.child-item.ensures.in_range,
          (
            served,
            ranked_shape tb c.index-shapes-index.result c.requires.sound.tables served,
          ),
        ),
      ),
    )

pub each::read_tuple-returns-in_err-reading-clause-told :
    goal.each::read_tuple-returns-in_err-reading-clause-told
each::read_tuple-returns-in_err-reading-clause-told t c =
    let tb = c.args.tables.now in
    let rules : Rules = rules_at tb in
    let v : Tree = value_of c.args.nodes.now c.args.node in
    let P = ReadsPlace (ReadsValue rules) in
    let f : ℕ × Tree → ValueAs = λ p. (rules.end_of p.0, p.1) in
    let there : slice_get c.args.shapes.now c.loop-index.index ≡ Some c.index-shapes-index.result =
    slice_get_read c.args.shapes.now (length c.args.shapes.now) c.loop-index.index
    c.index-shapes-index.result refl c.loop-index-test.true c.index-shapes-index.is in
    let pair : slice_get (zip c.args.shapes.now (children v)) c.loop-index.index
    ≡ Some (c.index-shapes-index.result, value_of c.args.nodes.now c.child-item.result) =
    zip_at c.args.shapes.now (children v) c.loop-index.index c.index-shapes-index.result
    (value_of c.args.nodes.now c.child-item.result) there c.child-item.ensures.child in
    let w : Tree = value_of c.args.nodes.now c.child-item.result in
    read_err _ _ c.from_residual-in_err-reading.result c.in_err-reading.field-0.0 c.from_residual-in_err-reading.ensures.0 c.from_residual-in_err-reading.ensures.1
    (not_one_then c.in_err-reading.field-0.0
    (Counted (ReadsValue rules (of_shape c.index-shapes-index.result) w) One)
    (Counted (ReadsEnd rules (inner rules) (a_tuple c.args.shapes.now) v) One)
    (λ one.
    one_at P (zip c.args.shapes.now (children v)) c.loop-index.index
    (c.index-shapes-index.result, w) pair
    (one_places rules (inner rules) c.args.shapes.now v one).1)
    c.in_err-reading.ensures.told)

pub each::read_tuple-loop-index-preserved :
    goal.each::read_tuple-loop-index-preserved
each::read_tuple-loop-index-preserved t c =
    let tb = c.args.tables.now in
    let rules : Rules = rules_at tb in
    let v : Tree = value_of c.args.nodes.now c.args.node in
    let P = ReadsPlace (ReadsValue rules) in
    let f : ℕ × Tree → ValueAs = λ p. (rules.end_of p.0, p.1) in
    let there : slice_get c.args.shapes.now c.loop-index.index ≡ Some c.index-shapes-index.result =
    slice_get_read c.args.shapes.now (length c.args.shapes.now) c.loop-index.index
    c.index-shapes-index.result refl c.loop-index-test.true c.index-shapes-index.is in
    let pair : slice_get (zip c.args.shapes.now (children v)) c.loop-index.index
    ≡ Some (c.index-shapes-index.result, value_of c.args.nodes.now c.child-item.result) =
    zip_at c.args.shapes.now (children v) c.loop-index.index c.index-shapes-index.result
    (value_of c.args.nodes.now c.child-item.result) there c.child-item.ensures.child in
    let told = c.in_ok-reading.ensures.told.1 in
    record {
      sound = c.in_ok-reading.ensures.sound;
      told = subst (EachTold rules tb.shapes.now P f
          (take (c.loop-index.index + 1) (zip c.args.shapes.now (children v))))
          (sym c.in_ok-push.ensures)
          (more_told rules tb.shapes.now P f (zip c.args.shapes.now (children v))
          c.loop-index.index
          (c.index-shapes-index.result, value_of c.args.nodes.now c.child-item.result)
          c.loop-index.readings.items told.reading c.in_ok-reading.reading pair
          c.loop-index.invariant.told told.reads told.tells);
      one = count_up_to_at P (zip c.args.shapes.now (children v)) c.loop-index.index
          (c.index-shapes-index.result, value_of c.args.nodes.now c.child-item.result) One One pair
          c.loop-index.invariant.one c.in_ok-reading.ensures.told.0;
    }

pub each::read_tuple-returns-clause-told :
    goal.each::read_tuple-returns-clause-told
each::read_tuple-returns-clause-told t c =
    let tb = c.args.tables.now in
    let rules : Rules = rules_at tb in
    let v : Tree = value_of c.args.nodes.now c.args.node in
    let P = ReadsPlace (ReadsValue rules) in
    let f : ℕ × Tree → ValueAs = λ p. (rules.end_of p.0, p.1) in
    let tree : v ≡ list (items_view c.in-List.items.items) =
    sym c.value.ensures ∙ (ap view c.in-List.is ∙ seen_list c.in-List.items) in
    let long : length (children v) ≡ length c.in-List.items.items =
    list_length v c.in-List.items.items tree in
    let same : length c.args.shapes.now ≡ length (children v) =
    omega (arith, long, c.if-shapes-len.false) in
    let all : length (zip c.args.shapes.now (children v)) ≤ c.loop-index.index =
    omega (arith, length-zip c.args.shapes.now (children v)) in (
      tuple_end rules (inner rules) c.args.shapes.now v One (ap is_list tree) same
          (count_up_to_all P (zip c.args.shapes.now (children v)) c.loop-index.index One all
          c.loop-index.invariant.one),
      tuple_told tb c.args.nodes.now c.args.node c.plain.result c.plain.ensures.variants
          c.args.shapes.now c.loop-index.readings (ap is_list tree) same c.plain.ensures.kind
          (all_told rules tb.shapes.now P f (zip c.args.shapes.now (children v))
          c.loop-index.index c.loop-index.readings.items all c.loop-index.invariant.told),
    )

pub members::read_field-read_target-requires :
    goal.members::read_field-read_target-requires
members::read_field-read_target-requires t c =
    let tb = c.args.tables.now in
    let rules = rules_at tb in
    let nodes = c.args.nodes.now in
    let o = c.args.object.now in
    let object = object_view nodes o in
    let m = member_view c.args.member.now in
    let v : Tree = value_of nodes o.node in
    let w : Tree = value_of nodes c.in-Some.value in
    let falls = found_levels v c.args.member.now.name.now w tb.steps c.in-Some.ensures.1
    (omega arith) in (
      omega arith,
      (
        c.requires.sound,
        (
          c.in-Some.ensures.0,
          (
            c.requires.served,
            ranked_target tb m.target c.requires.sound.tables c.requires.served,
          ),
        ),
      ),
    )

pub members::read_field-returns-in-Some-clause-told :
    goal.members::read_field-returns-in-Some-clause-told
members::read_field-returns-in-Some-clause-told t c =
    let tb = c.args.tables.now in
    let rules = rules_at tb in
    let nodes = c.args.nodes.now in
    let o = c.args.object.now in
    let object = object_view nodes o in
    let m = member_view c.args.member.now in
    let w : Tree = value_of nodes c.in-Some.value in
    read_as (IsToldAt tb nodes c.in-Some.value m.target) (IsToldField tb nodes o m)
    (IsCount tb nodes c.in-Some.value m.target One) (IsPartCount tb nodes o (a_member m) One)
    c.read_target.result
    (λ r one h.
    field_there tb nodes o m w r
    (one_of_value rules (ReadsValue rules) object m w c.in-Some.ensures.1 one) c.in-Some.ensures.1 h)
    (λ one. one_of_value rules (ReadsValue rules) object m w c.in-Some.ensures.1 one)
    (λ one. one_of_member rules (ReadsValue rules) object m w c.in-Some.ensures.1 one)
    c.read_target.ensures.told

pub members::read_field-returns-in-None-2-clause-told :
    goal.members::read_field-returns-in-None-2-clause-told
members::read_field-returns-in-None-2-clause-told t c =
    let tb = c.args.tables.now in
    let rules = rules_at tb in
    let nodes = c.args.nodes.now in
    let o = c.args.object.now in
    let object = object_view nodes o in
    let m = member_view c.args.member.now in
    let one = count_of_lacking rules (ReadsValue rules) object m c.in-None.ensures
    c.if-member.false in (
      one,
      field_absent tb nodes o m c.plain.result one c.in-None.ensures c.plain.ensures.variants
          c.plain.ensures.kind,
    )

pub members::read_fields-read_field-requires :
    goal.members::read_fields-read_field-requires
members::read_fields-read_field-requires t c =
    let tb = c.args.tables.now in
    let rules = rules_at tb in
    let nodes = c.args.nodes.now in
    let o = c.args.object.now in
    let object = object_view nodes o in
    let ss = map step_view c.args.steps.now in
    let i = c.loop-step.step-index in
    let item = c.step-item.result in
    let m = member_view c.in-Field.member.now in
    let at = seen_read step_view c.args.steps.now ss i item refl c.loop-step-test.true
    c.step-item.is in
    let field = subst (λ s. slice_get ss i ≡ Some (step_view s)) c.in-Field.is at in (
      omega arith,
      (
        c.loop-step.invariant.sound,
        (
          c.requires.object,
          all_at (StepIsServed tb) ss i (planned.a_field c.in-Field.field-0 m) c.requires.served
              field,
        ),
      ),
    )

pub members::read_fields-returns-in_err-reading-clause-told :
    goal.members::read_fields-returns-in_err-reading-clause-told
members::read_fields-returns-in_err-reading-clause-told t c =
    let tb = c.args.tables.now in
    let rules = rules_at tb in
    let nodes = c.args.nodes.now in
    let o = c.args.object.now in
    let object = object_view nodes o in
    let ss = map step_view c.args.steps.now in
    let i = c.loop-step.step-index in
    let item = c.step-item.result in
    let m = member_view c.in-Field.member.now in
    let at = seen_read step_view c.args.steps.now ss i item refl c.loop-step-test.true
    c.step-item.is in
    let field = subst (λ s. slice_get ss i ≡ Some (step_view s)) c.in-Field.is at in
    read_err _ _ c.from_residual-in_err-reading.result c.in_err-reading.field-0.0 c.from_residual-in_err-reading.ensures.0 c.from_residual-in_err-reading.ensures.1
    (not_one_then c.in_err-reading.field-0.0 (IsPartCount tb nodes o (a_member m) One)
    (AreOnlyMembers tb nodes o (found.members_in ss))
    (λ all.
    planned_member_at (λ n. IsOnly (ReadsPart rules (ReadsValue rules) object (a_member n)))
    ss i c.in-Field.field-0 m field all)
    c.in_err-reading.ensures.told)

pub members::read_fields-loop-step-preserved :
    goal.members::read_fields-loop-step-preserved
members::read_fields-loop-step-preserved t c =
    let tb = c.args.tables.now in
    let nodes = c.args.nodes.now in
    let o = c.args.object.now in
    let ss = map step_view c.args.steps.now in
    let i = c.loop-step.step-index in
    let item = c.step-item.result in
    let at = seen_read step_view c.args.steps.now ss i item refl c.loop-step-test.true
    c.step-item.is in
    elim c.match-step.branch [
      | members::read_fields-in-Field+in_ok-reading+in_ok-push w ↦
          let m = member_view w.in-Field.member.now in
          let is = ap (λ s. found.members_in (step_view s ∷ [])) w.in-Field.is in
          let more = more_field tb nodes o ss i (step_view item) m c.loop-step.values.items
          w.in_ok-reading.reading at is c.loop-step.invariant.told w.in_ok-reading.ensures.told.1 in
          let items = ap (λ v. v.items) w.values-is ∙ w.in_ok-push.ensures in
          record {
            sound = rw w.memo-is w.in_ok-reading.ensures.sound;
            told = subst
                (AreToldFields tb nodes o (found.members_in (take (i + 1) ss))) (sym items) more;
          }
      | members::read_fields-in_default w ↦
          let none = no_member item w.in_default.not-Field in
          let more = no_field_more tb nodes o ss i (step_view item) c.loop-step.values.items at none
          c.loop-step.invariant.told in
          record {
            sound = rw w.memo-is c.loop-step.invariant.sound;
            told = subst
                (λ v. AreToldFields tb nodes o (found.members_in (take (i + 1) ss)) v.items)
                (sym w.values-is) more;
          }
    ]

pub members::read_fields-returns-clause-told :
    goal.members::read_fields-returns-clause-told
members::read_fields-returns-clause-told t c =
    let ss = map step_view c.args.steps.now in
    let i = c.loop-step.step-index in
    let past : length ss ≤ i = omega (arith, length-map c.args.steps.now step_view) in
    let told = subst
    (λ xs.
    AreToldFields c.args.tables.now c.args.nodes.now c.args.object.now (found.members_in xs)
    c.loop-step.values.items)
    (take_all i ss past) c.loop-step.invariant.told in (
      told_only c.args.tables.now c.args.nodes.now c.args.object.now (found.members_in ss)
          c.loop-step.values.items told,
      told,
    )

pub members::read_rest-loop-index-init :
    goal.members::read_rest-loop-index-init
members::read_rest-loop-index-init t c =
    let tb = c.args.tables.now in
    let rules = rules_at tb in
    let nodes = c.args.nodes.now in
    let o = c.args.object.now in
    let object = object_view nodes o in
    let k = catch_all_view c.args.catch_all.now in
    let h = nothing_taken rules tb.shapes.now object k [] (texts c.new-names.result.items)
    c.new-readings.result.items refl (ap texts c.new-names.ensures.items)
    c.new-readings.ensures.items in
    record {
      sound = c.requires.sound;
      takes = h.takes;
      reads = h.reads;
      tells = h.tells;
      one = count_of_no_rest rules (ReadsValue rules) object k;
    }

pub members::read_rest-has_name-requires :
    goal.members::read_rest-has_name-requires
members::read_rest-has_name-requires t c =
    let o = c.requires.object in
    (c.requires.sound.tables.lists o.index c.args.object.now.list.now o.listed).sorted

pub members::read_rest-read_taken-requires :
    goal.members::read_rest-read_taken-requires
members::read_rest-read_taken-requires t c =
    let tb = c.args.tables.now in
    let rules = rules_at tb in
    let nodes = c.args.nodes.now in
    let o = c.args.object.now in
    let object = object_view nodes o in
    let k = catch_all_view c.args.catch_all.now in
    let ms = members_in (value_of nodes o.node) in
    let items = c.members_of-members.result.now in
    let same = c.members_of-members.ensures ∙ ap members_in c.value.ensures in
    let i = c.loop-index.index in
    let read = c.index-members-index.result in
    let within : i < length items = omega arith in
    let item = get_or items i read in
    let at = subst (λ x. slice_get ms i ≡ Some (member_view_of x)) c.index-members-index.is
    (seen_read member_view_of items ms i read same within c.index-members-index.is) in
    let l = o.list.now in
    let listed : IsListed tb l =
    record { index = c.requires.object.index; listed = c.requires.object.listed } in
    let knows = known_by_list tb c.requires.sound.tables (list_view l.id) l
    (itself tb c.requires.sound.tables l listed) (named item.0.now) c.has_name.result
    c.has_name.ensures in
    let named_so = λ (m : Member) (e : slice_get ms i ≡ Some m).
    let both : Some (member_view_of item) ≡ Some m = sym at ∙ e in
    let one : member_view_of item ≡ m = cc in
    sym (ap (λ (m : Member). m.name) one) in (
      omega arith,
      (
        c.loop-index.invariant.sound,
        (
          c.requires.object.inside,
          (slice_get_within ms i (member_view_of item) at, (c.requires.served, named_so)),
        ),
      ),
    )

pub members::read_rest-returns-in_err-reading-clause-told :
    goal.members::read_rest-returns-in_err-reading-clause-told
members::read_rest-returns-in_err-reading-clause-told t c =
    let tb = c.args.tables.now in
    let rules = rules_at tb in
    let nodes = c.args.nodes.now in
    let o = c.args.object.now in
    let object = object_view nodes o in
    let k = catch_all_view c.args.catch_all.now in
    let ms = members_in (value_of nodes o.node) in
    let items = c.members_of-members.result.now in
    let same = c.members_of-members.ensures ∙ ap members_in c.value.ensures in
    let i = c.loop-index.index in
    let read = c.index-members-index.result in
    let within : i < length items = omega arith in
    let item = get_or items i read in
    let at = subst (λ x. slice_get ms i ≡ Some (member_view_of x)) c.index-members-index.is
    (seen_read member_view_of items ms i read same within c.index-members-index.is) in
    let l = o.list.now in
    let listed : IsListed tb l =
    record { index = c.requires.object.index; listed = c.requires.object.listed } in
    let knows = known_by_list tb c.requires.sound.tables (list_view l.id) l
    (itself tb c.requires.sound.tables l listed) (named item.0.now) c.has_name.result
    c.has_name.ensures in
    let unknown : IsUnknown rules object item.0.now = λ known.
    let is : c.has_name.result ≡ true = knows.1 known in
    let isnt : c.has_name.result ≡ false = c.if-not-has_name.true in absurd (cc) in
    read_err _ _ c.from_residual.result c.in_err-reading.field-0.0 c.from_residual.ensures.0 c.from_residual.ensures.1
    (not_one_then c.in_err-reading.field-0.0
    (Counted (Takes rules (ReadsValue rules) k (member_view_of item)) One)
    (IsPartCount tb nodes o (a_catch_all k) One)
    (λ one.
    one_taken_at rules (ReadsValue rules) object k ms i (member_view_of item) at unknown
    (one_rest rules (ReadsValue rules) object k one))
    (c.in_err-reading.ensures.told (member_view_of item) at))

pub members::read_rest-loop-index-preserved :
    goal.members::read_rest-loop-index-preserved
members::read_rest-loop-index-preserved t c =
    let tb = c.args.tables.now in
    let rules = rules_at tb in
    let nodes = c.args.nodes.now in
    let o = c.args.object.now in
    let object = object_view nodes o in
    let k = catch_all_view c.args.catch_all.now in
    let ms = members_in (value_of nodes o.node) in
    let items = c.members_of-members.result.now in
    let same = c.members_of-members.ensures ∙ ap members_in c.value.ensures in
    let i = c.loop-index.index in
    let read = c.index-members-index.result in
    let within : i < length items = omega arith in
    let item = get_or items i read in
    let at = subst (λ x. slice_get ms i ≡ Some (member_view_of x)) c.index-members-index.is
    (seen_read member_view_of items ms i read same within c.index-members-index.is) in
    let l = o.list.now in
    let listed : IsListed tb l =
    record { index = c.requires.object.index; listed = c.requires.object.listed } in
    let knows = known_by_list tb c.requires.sound.tables (list_view l.id) l
    (itself tb c.requires.sound.tables l listed) (named item.0.now) c.has_name.result
    c.has_name.ensures in
    let before = c.loop-index.invariant in
    elim c.if-not-has_name.branch [
      | members::read_rest-then-not-has_name+in_ok-reading+in_ok-push+in_ok-push-2 w ↦
          let unknown : IsUnknown rules object item.0.now = λ known.
          let is : c.has_name.result ≡ true = knows.1 known in
          let isnt : c.has_name.result ≡ false = w.if-not-has_name.true in absurd (cc) in
          let read = w.in_ok-reading.ensures.told (member_view_of item) at in
          let told = read.1 in
          let more = more_taken rules tb.shapes.now object k ms i (member_view_of item) at
          before.takes (texts c.loop-index.names.items) c.loop-index.readings.items told.reading
          w.in_ok-reading.reading unknown told.takes told.tells before.reads before.tells in
          let names = ap (λ x. texts x.items) w.names-is ∙ (ap texts w.in_ok-push.ensures.items
          ∙ map-append (λ (x : Bor Name). x.now) c.loop-index.names.items (item.0 ∷ [])) in
          let readings = ap (λ x. x.items) w.readings-is ∙ w.in_ok-push-2.ensures in
          record {
            sound = rw w.memo-is w.in_ok-reading.ensures.sound;
            takes = more.takes;
            reads = more.reads;
            tells = subst
                (λ ns. TellsTaken rules tb.shapes.now (end_taken rules k) (take (i + 1) ms)
                more.takes ns c.if-not-has_name.readings.items)
                (sym names)
                (subst
                (TellsTaken rules tb.shapes.now (end_taken rules k) (take (i + 1) ms)
                more.takes (texts c.loop-index.names.items ++ item.0.now ∷ []))
                (sym readings) more.tells);
            one = taken_more rules (ReadsValue rules) object k ms i (member_view_of item) at One One
                unknown before.one read.0;
          }
      | members::read_rest-else-not-has_name w ↦
          let known = knows.0 w.if-not-has_name.false in
          let more = more_passed rules tb.shapes.now object k ms i (member_view_of item) at
          before.takes (texts c.loop-index.names.items) c.loop-index.readings.items
          known before.reads before.tells in
          record {
            sound = rw w.memo-is before.sound;
            takes = more.takes;
            reads = more.reads;
            tells = subst
                (λ x. TellsTaken rules tb.shapes.now (end_taken rules k) (take (i + 1) ms)
                more.takes (texts x.items) c.if-not-has_name.readings.items)
                (sym w.names-is)
                (subst
                (λ x. TellsTaken rules tb.shapes.now (end_taken rules k) (take (i + 1) ms)
                more.takes (texts c.loop-index.names.items) x.items)
                (sym w.readings-is) more.tells);
            one = passing_more rules (ReadsValue rules) object k ms i (member_view_of item) at One
                known before.one;
          }
    ]

pub members::read_rest-returns-clause-told :
    goal.members::read_rest-returns-clause-told
members::read_rest-returns-clause-told t c =
    let tb = c.args.tables.now in
    let rules = rules_at tb in
    let nodes = c.args.nodes.now in
    let o = c.args.object.now in
    let object = object_view nodes o in
    let k = catch_all_view c.args.catch_all.now in
    let ms = members_in (value_of nodes o.node) in
    let items = c.members_of-members.result.now in
    let same = c.members_of-members.ensures ∙ ap members_in c.value.ensures in
    let i = c.loop-index.index in
    let before = c.loop-index.invariant in
    let past : length ms ≤ i = omega (arith, length-map items member_view_of, ap length same) in
    let one = count_of_catch_all rules (ReadsValue rules) object k One c.if-not-object.false
    (subst (λ ns. Counted (TakesRest rules object (Takes rules (ReadsValue rules) k) ns) One)
    (take_all i ms past) before.one) in
    let so_far : TakenTold rules tb.shapes.now object k (take i ms)
    (texts c.loop-index.names.items) c.loop-index.readings.items =
    record { takes = before.takes; reads = before.reads; tells = before.tells } in (
      one,
      rest_told tb nodes o k (c.loop-index.names, c.loop-index.readings) one
          (subst
          (λ (xs : List Member). TakenTold rules tb.shapes.now object k xs
          (texts c.loop-index.names.items) c.loop-index.readings.items)
          (take_all i ms past) so_far),
    )

pub members::read_rests-read_rest-requires :
    goal.members::read_rests-read_rest-requires
members::read_rests-read_rest-requires t c =
    let tb = c.args.tables.now in
    let nodes = c.args.nodes.now in
    let o = c.args.object.now in
    let ss = map step_view c.args.steps.now in
    let i = c.loop-step.step-index in
    let item = c.step-item.result in
    let at = seen_read step_view c.args.steps.now ss i item refl c.loop-step-test.true
    c.step-item.is in
    let k = catch_all_view c.in-Rest.catch_all.now in
    let here = subst (λ s. slice_get ss i ≡ Some (step_view s)) c.in-Rest.is at in (
      omega arith,
      (
        c.loop-step.invariant.sound,
        (
          c.requires.object,
          all_at (StepIsServed tb) ss i (planned.a_rest k) c.requires.served here,
        ),
      ),
    )

pub members::read_rests-returns-in_err-rest-clause-told :
    goal.members::read_rests-returns-in_err-rest-clause-told
members::read_rests-returns-in_err-rest-clause-told t c =
    let tb = c.args.tables.now in
    let nodes = c.args.nodes.now in
    let o = c.args.object.now in
    let ss = map step_view c.args.steps.now in
    let i = c.loop-step.step-index in
    let item = c.step-item.result in
    let at = seen_read step_view c.args.steps.now ss i item refl c.loop-step-test.true
    c.step-item.is in
    let k = catch_all_view c.in-Rest.catch_all.now in
    let here = subst (λ s. slice_get ss i ≡ Some (step_view s)) c.in-Rest.is at in
    read_err _ _ c.from_residual.result c.in_err-rest.field-0.0 c.from_residual.ensures.0 c.from_residual.ensures.1
    (not_one_then c.in_err-rest.field-0.0 (IsPartCount tb nodes o (a_catch_all k) One)
    (AreOnlyRests tb nodes o ss)
    (λ all. all_at (IsOnlyRest tb nodes o) ss i (planned.a_rest k) all here)
    c.in_err-rest.ensures.told)

pub members::read_rests-loop-step-preserved :
    goal.members::read_rests-loop-step-preserved
members::read_rests-loop-step-preserved t c =
    let tb = c.args.tables.now in
    let nodes = c.args.nodes.now in
    let o = c.args.object.now in
    let ss = map step_view c.args.steps.now in
    let i = c.loop-step.step-index in
    let item = c.step-item.result in
    let at = seen_read step_view c.args.steps.now ss i item refl c.loop-step-test.true
    c.step-item.is in
    let before = c.loop-step.invariant in
    let is = rest_at ss i (step_view item) at in
    let within = slice_get_within ss i (step_view item) at in
    let here : get_or ss i (step_view item) ≡ step_view item =
    get_or_from_slice_get ss i (step_view item) (step_view item) at in
    let more = λ (h : IsOnlyRest tb nodes o (step_view item)).
    all_upto_more (IsOnlyRest tb nodes o) ss i (step_view item) within before.only
    (subst (IsOnlyRest tb nodes o) (sym here) h) in
    elim c.match-step.branch [
      | members::read_rests-in-Rest+in_ok-rest+then-is_none w ↦
          let k = catch_all_view w.in-Rest.catch_all.now in
          let rest = ap (λ s. found.catch_all_in (step_view s ∷ [])) w.in-Rest.is in
          record {
            sound = rw w.memo-is w.in_ok-rest.ensures.sound;
            told = subst (λ x. IsToldSoFar tb nodes o x c.match-step.first)
                (sym (is ∙ ap (option_or (found.catch_all_in (take i ss))) rest))
                (subst (λ f. IsToldSoFar tb nodes o
                (option_or (found.catch_all_in (take i ss)) (Some k)) f) (sym w.first-is)
                (rest_first tb nodes o (found.catch_all_in (take i ss)) c.loop-step.first k
                w.in_ok-rest.rest (none_some c.loop-step.first w.is_none.result w.is_none.ensures
                w.if-is_none.true)
                w.in_ok-rest.ensures.told.1 before.told));
            only = more (subst (λ s. IsOnlyRest tb nodes o (step_view s)) (sym w.in-Rest.is)
                w.in_ok-rest.ensures.told.0);
          }
      | members::read_rests-in-Rest+in_ok-rest+else-is_none w ↦
          record {
            sound = rw w.memo-is w.in_ok-rest.ensures.sound;
            told = subst (λ x. IsToldSoFar tb nodes o x c.match-step.first) (sym is)
                (subst (λ f. IsToldSoFar tb nodes o
                (option_or (found.catch_all_in (take i ss))
                (found.catch_all_in (step_view item ∷ []))) f) (sym w.first-is)
                (rest_kept tb nodes o (found.catch_all_in (take i ss))
                (found.catch_all_in (step_view item ∷ [])) c.loop-step.first
                (some_some c.loop-step.first w.is_none.result w.is_none.ensures
                w.if-is_none.false)
                before.told));
            only = more (subst (λ s. IsOnlyRest tb nodes o (step_view s)) (sym w.in-Rest.is)
                w.in_ok-rest.ensures.told.0);
          }
      | members::read_rests-in_default w ↦
          let none = no_rest_at item w.in_default.not-Rest in
          record {
            sound = rw w.memo-is before.sound;
            told = subst (λ x. IsToldSoFar tb nodes o x c.match-step.first)
                (sym (is ∙ ap (option_or (found.catch_all_in (take i ss))) none))
                (subst (λ f. IsToldSoFar tb nodes o
                (option_or (found.catch_all_in (take i ss)) None) f) (sym w.first-is)
                (rest_passed tb nodes o (found.catch_all_in (take i ss)) c.loop-step.first
                before.told));
            only = more (no_rest_only tb nodes o (step_view item) none);
          }
    ]

pub members::read_taken-read_shape-requires :
    goal.members::read_taken-read_shape-requires
members::read_taken-read_shape-requires t c =
    let tb = c.args.tables.now in
    let rules : Rules = rules_at tb in
    let v : Tree = value_of c.args.nodes.now c.args.node in
    let falls = child_levels c.args.nodes.now c.args.node c.child-member.result c.args.index
    tb.steps c.child-member.ensures.child (omega arith) in
    let served = subst (λ k. PartIsServed tb (a_catch_all (catch_all_view k))) c.in-Map-2.is
    c.requires.1.1.1.1.1.0 in (
      omega arith,
      (
        c.requires.1.1.0,
        (
          c.child-member.ensures.in_range,
          (served, ranked_shape tb c.in-Map-2.value c.requires.1.1.0.tables served),
        ),
      ),
    )

pub members::read_taken-returns-in-Anything-clause-told :
    goal.members::read_taken-returns-in-Anything-clause-told
members::read_taken-returns-in-Anything-clause-told t c =
    λ m e.
    let tb = c.args.tables.now in
    let rules : Rules = rules_at tb in
    let v : Tree = value_of c.args.nodes.now c.args.node in
    let w : Tree = value_of c.args.nodes.now c.child-member.result in
    let both : Some w ≡ Some m.value =
    sym c.child-member.ensures.child ∙ child_of_member v c.args.index m e in
    let same : w ≡ m.value = cc in
    subst
    (λ k. IsRead (IsToldTaken tb (catch_all_view k) m)
    (Counted (Takes rules (ReadsValue rules) (catch_all_view k) m) One) (Ok c.as_it_is.result))
    (sym c.in-Anything.is) (
      count_of_anything rules (ReadsValue rules) m,
      anything_taken tb m c.as_it_is.result c.value.result c.as_it_is.ensures.variants
          c.as_it_is.ensures.kind (c.value.ensures ∙ same),
    )

pub members::read_taken-returns-in-Map-2-clause-told :
    goal.members::read_taken-returns-in-Map-2-clause-told
members::read_taken-returns-in-Map-2-clause-told t c =
    λ m e.
    let tb = c.args.tables.now in
    let rules : Rules = rules_at tb in
    let nodes = c.args.nodes.now in
    let v : Tree = value_of c.args.nodes.now c.args.node in
    let w : Tree = value_of c.args.nodes.now c.child-member.result in
    let both : Some w ≡ Some m.value =
    sym c.child-member.ensures.child ∙ child_of_member v c.args.index m e in
    let same : w ≡ m.value = cc in
    let twice = sym c.in-Map.is ∙ c.in-Map-2.is in
    let same_key : c.in-Map.key ≡ c.in-Map-2.field-0 = cc in
    let key : rules.is_key c.in-Map-2.field-0 m.name ≡ true =
    ap (λ k. rules.is_key k m.name) (sym same_key)
    ∙ ap (rules.is_key c.in-Map.key) (c.requires.1.1.1.1.1.1 m e) ∙ sym c.is_key.ensures
    ∙ c.if-not-is_key.false in
    read_as (IsToldAt tb nodes c.child-member.result (of_shape c.in-Map-2.value))
    (IsToldTaken tb (catch_all_view c.args.catch_all.now) m)
    (IsCount tb nodes c.child-member.result (of_shape c.in-Map-2.value) One)
    (Counted (Takes rules (ReadsValue rules) (catch_all_view c.args.catch_all.now) m) One)
    c.read_shape.result
    (λ r one h.
    subst (λ k. IsToldTaken tb (catch_all_view k) m r) (sym c.in-Map-2.is)
    (entry_taken tb m c.in-Map-2.field-0 c.in-Map-2.value r key
    (subst (λ x. IsTold rules tb.shapes.now (of_shape c.in-Map-2.value) x r) same h)))
    (λ one.
    subst (λ k. Counted (Takes rules (ReadsValue rules) (catch_all_view k) m) One)
    (sym c.in-Map-2.is)
    (count_of_taken_entry rules (ReadsValue rules) m c.in-Map-2.field-0 c.in-Map-2.value One key
    (subst (λ x. Counted (ReadsValue rules (of_shape c.in-Map-2.value) x) One) same one)))
    (λ one.
    subst (λ x. Counted (ReadsValue rules (of_shape c.in-Map-2.value) x) One) (sym same)
    (one_of_entry rules (ReadsValue rules) m c.in-Map-2.field-0 c.in-Map-2.value
    (subst (λ k. Counted (Takes rules (ReadsValue rules) (catch_all_view k) m) One) c.in-Map-2.is
    one)))
    c.read_shape.ensures.told

pub object::read_object-has_unknown_beside-has_unknown-requires-clause-sorted :
    goal.object::read_object-has_unknown_beside-has_unknown-requires-clause-sorted
object::read_object-has_unknown_beside-has_unknown-requires-clause-sorted t c =
    let of = c.in-Some.ensures in
    (c.requires.sound.tables.lists of.index c.in-Some.list.now of.listed).sorted

pub object::read_object-steps_of-requires-clause-object :
    goal.object::read_object-steps_of-requires-clause-object
object::read_object-steps_of-requires-clause-object t c =
    let tb = c.args.tables.now in
    let rules = rules_at tb in
    let nodes = c.args.nodes.now in
    let ms = members_in (value_of nodes c.args.node) in
    let of = c.in-Some.ensures in
    let l = c.in-Some.list.now in
    let listed : IsListed tb l = record { index = of.index; listed = of.listed } in
    let unknown = unknown_by_list tb c.requires.sound.tables l listed
    (object_by ms (list_view l.id) c.in_ok-takes.takes)
    c.has_unknown_beside-has_unknown.result refl c.has_unknown_beside-has_unknown.ensures in
    record {
      inside = c.requires.inside;
      index = of.index;
      listed = of.listed;
      unknown = unknown;
      filter = c.filter_of-filter.ensures;
    }

pub object::read_object-returns-in_err-steps-clause-told :
    goal.object::read_object-returns-in_err-steps-clause-told
object::read_object-returns-in_err-steps-clause-told t c =
    let tb = c.args.tables.now in
    let rules = rules_at tb in
    let nodes = c.args.nodes.now in
    let ms = members_in (value_of nodes c.args.node) in
    let of = c.in-Some.ensures in
    let l = c.in-Some.list.now in
    let listed : IsListed tb l = record { index = of.index; listed = of.listed } in
    let object = object_by ms (list_view l.id) c.in_ok-takes.takes in
    let by = c.in_ok-takes.ensures.by_list in
    let into : Counted (ReadsList rules (ReadsValue rules) object (list_view l.id)) One
    → Counted (ReadsObject rules (ReadsValue rules) (list_view c.args.id) ms) One =
    λ one.
    subst (λ i. Counted (ReadsObject rules (ReadsValue rules) i ms) One) of.same
    (counted_same (ReadsList rules (ReadsValue rules) object (list_view l.id))
    (ReadsObject rules (ReadsValue rules) (list_view l.id) ms) One (λ a r. (by a).0 r)
    (λ a r. (by a).1 r) one) in
    let back : Counted (ReadsObject rules (ReadsValue rules) (list_view c.args.id) ms) One
    → Counted (ReadsList rules (ReadsValue rules) object (list_view l.id)) One =
    λ one.
    one_by_list rules (ReadsValue rules) object by
    (subst (λ i. Counted (ReadsObject rules (ReadsValue rules) i ms) One) (sym of.same) one) in
    read_err _ _ c.from_residual-in_err-steps.result c.in_err-steps.field-0.0
    c.from_residual-in_err-steps.ensures.0 c.from_residual-in_err-steps.ensures.1
    (not_one_then c.in_err-steps.field-0.0
    (Counted (ReadsList rules (ReadsValue rules) object (list_view l.id)) One)
    (Counted (ReadsObject rules (ReadsValue rules) (list_view c.args.id) ms) One) back
    c.in_err-steps.ensures.none)

pub object::read_object-read_steps-requires :
    goal.object::read_object-read_steps-requires
object::read_object-read_steps-requires t c =
    let tb = c.args.tables.now in
    let rules = rules_at tb in
    let nodes = c.args.nodes.now in
    let ms = members_in (value_of nodes c.args.node) in
    let of = c.in-Some.ensures in
    let l = c.in-Some.list.now in
    let listed : IsListed tb l = record { index = of.index; listed = of.listed } in
    let unknown = unknown_by_list tb c.requires.sound.tables l listed
    (object_by ms (list_view l.id) c.in_ok-takes.takes)
    c.has_unknown_beside-has_unknown.result refl c.has_unknown_beside-has_unknown.ensures in (
      omega arith,
      (
        c.steps_of.ensures.sound,
        (
          record {
            inside = c.requires.inside;
            index = of.index;
            listed = of.listed;
            unknown = unknown;
            filter = c.filter_of-filter.ensures;
          },
          (c.in_ok-steps.ensures.plan, λ a r. (c.in_ok-takes.ensures.by_list a).0 r),
        ),
      ),
    )

pub object::read_object-returns-clause-told :
    goal.object::read_object-returns-clause-told
object::read_object-returns-clause-told t c =
    let tb = c.args.tables.now in
    let rules = rules_at tb in
    let nodes = c.args.nodes.now in
    let ms = members_in (value_of nodes c.args.node) in
    let of = c.in-Some.ensures in
    let l = c.in-Some.list.now in
    let listed : IsListed tb l = record { index = of.index; listed = of.listed } in
    let object = object_by ms (list_view l.id) c.in_ok-takes.takes in
    let by = c.in_ok-takes.ensures.by_list in
    let into : Counted (ReadsList rules (ReadsValue rules) object (list_view l.id)) One
    → Counted (ReadsObject rules (ReadsValue rules) (list_view c.args.id) ms) One =
    λ one.
    subst (λ i. Counted (ReadsObject rules (ReadsValue rules) i ms) One) of.same
    (counted_same (ReadsList rules (ReadsValue rules) object (list_view l.id))
    (ReadsObject rules (ReadsValue rules) (list_view l.id) ms) One (λ a r. (by a).0 r)
    (λ a r. (by a).1 r) one) in
    let back : Counted (ReadsObject rules (ReadsValue rules) (list_view c.args.id) ms) One
    → Counted (ReadsList rules (ReadsValue rules) object (list_view l.id)) One =
    λ one.
    one_by_list rules (ReadsValue rules) object by
    (subst (λ i. Counted (ReadsObject rules (ReadsValue rules) i ms) One) (sym of.same) one) in
    read_as (IsToldBy tb nodes c.args.node (list_view l.id))
    (IsToldBy tb nodes c.args.node (list_view c.args.id))
    (Counted (ReadsList rules (ReadsValue rules) object (list_view l.id)) One)
    (Counted (ReadsObject rules (ReadsValue rules) (list_view c.args.id) ms) One)
    c.read_steps.result
    (λ w one h. subst (λ i. IsToldBy tb nodes c.args.node i w) of.same h) into back
    c.read_steps.ensures.told

pub object::read_steps-returns-in_err-values-clause-told :
    goal.object::read_steps-returns-in_err-values-clause-told
object::read_steps-returns-in_err-values-clause-told t c =
    let tb = c.args.tables.now in
    let rules = rules_at tb in
    let nodes = c.args.nodes.now in
    let o = c.args.object.now in
    let steps = c.args.steps.items in
    let ss = map step_view steps in
    let all : map step_view c.deref.result.now ≡ ss = ap (map step_view) c.deref.ensures.value in
    read_err _ _ c.from_residual.result c.in_err-values.field-0.0 c.from_residual.ensures.0
    c.from_residual.ensures.1
    (not_one_then c.in_err-values.field-0.0
    (AreOnlyMembers tb nodes o (found.members_in (map step_view c.deref.result.now)))
    (IsListCount tb nodes o o.list.now One)
    (λ one.
    subst (λ ps. AreOnlyMembers tb nodes o (found.members_in ps)) (sym all)
    (members_of_plan tb nodes o steps (c.requires.plan.plan one)))
    c.in_err-values.ensures.told)

pub object::read_steps-returns-in_err-taken-clause-told :
    goal.object::read_steps-returns-in_err-taken-clause-told
object::read_steps-returns-in_err-taken-clause-told t c =
    let tb = c.args.tables.now in
    let rules = rules_at tb in
    let nodes = c.args.nodes.now in
    let o = c.args.object.now in
    let steps = c.args.steps.items in
    let ss = map step_view steps in
    let all : map step_view c.deref-2.result.now ≡ ss = ap (map step_view) c.deref-2.ensures.value in
    read_err _ _ c.from_residual-in_err-taken.result c.in_err-taken.field-0.0
    c.from_residual-in_err-taken.ensures.0 c.from_residual-in_err-taken.ensures.1
    (not_one_then c.in_err-taken.field-0.0
    (AreOnlyRests tb nodes o (map step_view c.deref-2.result.now))
    (IsListCount tb nodes o o.list.now One)
    (λ one.
    subst (AreOnlyRests tb nodes o) (sym all)
    (rests_of_plan tb nodes o steps (c.requires.plan.plan one)))
    c.in_err-taken.ensures.told)

pub object::read_steps-ignored_names-requires-clause-sorted :
    goal.object::read_steps-ignored_names-requires-clause-sorted
object::read_steps-ignored_names-requires-clause-sorted t c =
    let o = c.requires.object in
    (c.requires.sound.tables.lists o.index c.args.object.now.list.now o.listed).sorted

pub object::read_steps-ignored_names-requires-clause-unknown :
    goal.object::read_steps-ignored_names-requires-clause-unknown
object::read_steps-ignored_names-requires-clause-unknown t c =
    unknown_told c.args.tables.now c.requires.sound.tables c.args.nodes.now c.args.object.now
    c.requires.object

pub object::read_steps-returns-clause-told :
    goal.object::read_steps-returns-clause-told
object::read_steps-returns-clause-told t c =
    let tb = c.args.tables.now in
    let rules = rules_at tb in
    let nodes = c.args.nodes.now in
    let o = c.args.object.now in
    let steps = c.args.steps.items in
    let ss = map step_view steps in
    let ms = members_in (value_of nodes o.node) in
    let l = o.list.now in
    let fields = subst
    (λ ss. AreOnlyMembers tb nodes o (found.members_in (map step_view ss))
    × AreToldFields tb nodes o (found.members_in (map step_view ss)) c.in_ok-values.values.items)
    c.deref.ensures.value c.in_ok-values.ensures.told in
    let rests = subst
    (λ ss. AreOnlyRests tb nodes o (map step_view ss)
    × AreToldRests tb nodes o (map step_view ss) (c.in_ok-taken.taken, c.in_ok-taken.rest))
    c.deref-2.ensures.value c.in_ok-taken.ensures.told in
    let one = c.requires.plan.one (steps_only tb nodes o ss fields.0 rests.0) in
    let plan = c.requires.plan.plan one in
    let first = ap (λ ss. found.catch_all_in (map step_view ss)) (sym c.deref-3.ensures.value)
    ∙ sym c.catch_all_in.ensures in
    let x : ObjectReading =
    record {
      selections = c.in_ok-found.found.selections;
      absent = c.in_ok-found.found.absent;
      fields = c.in_ok-found.found.fields;
      taken = c.in_ok-taken.taken;
      ignored = c.match-catch_all_in.ignored;
    } in
    let ws = c.in_ok-taken.rest in
    let rest : TellsRest rules tb.shapes.now (list_view l.id) ms (rest_in plan.steps) x ws.items =
    elim c.match-catch_all_in.branch [
      | object::read_steps-in-Some w ↦
          let k = catch_all_view w.in-Some.field-0.now in
          let is : found.catch_all_in ss ≡ Some k =
          first ∙ ap (option_map (λ j. catch_all_view j.now)) w.in-Some.is in
          let told = subst (λ y. IsToldFirst tb nodes o y (c.in_ok-taken.taken, ws)) is rests.1 in
          rest_is_taken tb nodes o steps plan k (c.in_ok-taken.taken, ws) x ws.items is told refl
          refl (ap (λ y. y.items) w.ignored-is ∙ w.new-ignored.ensures.items)
      | object::read_steps-in-None+in_ok-ignored-in-None w ↦
          let isnt : found.catch_all_in ss ≡ None =
          first ∙ ap (option_map (λ j. catch_all_view j.now)) w.in-None.is in
          let told = subst (λ y. IsToldFirst tb nodes o y (c.in_ok-taken.taken, ws)) isnt rests.1 in
          let listed : IsListed tb l =
          record { index = c.requires.object.index; listed = c.requires.object.listed } in
          let tables = c.requires.sound.tables in
          let unknown = are_unknown tb tables (list_view l.id) l (itself tb tables l listed) ms in
          let names = ap (λ y. texts y.items) w.ignored-is ∙ w.in_ok-ignored-in-None.ensures in
          rest_is_ignored tb nodes o steps plan x ws.items isnt told.0 told.1
          (subst (AreUnknown rules (list_view l.id) ms) (sym names) unknown)
    ] in (
      one,
      told_by_plan tb nodes o steps plan c.plain.result x c.in_ok-values.values ws
          c.requires.reads c.plain.ensures.variants c.plain.ensures.kind
          c.in_ok-found.ensures.selections c.in_ok-found.ensures.absent c.in_ok-found.ensures.fields
          fields.1 rest,
    )

pub target::read_end-read_shape-requires :
    goal.target::read_end-read_shape-requires
target::read_end-read_shape-requires t c =
    let tb = c.args.tables.now in
    let rules : Rules = rules_at tb in
    let nodes = c.args.nodes.now in
    let v : Tree = value_of nodes c.args.node in
    let ends : end_view c.args.end.now ≡ an_option c.in-Option.inside =
    ap end_view c.in-Option.is in
    let is : rules.end_of c.args.shape ≡ an_option c.in-Option.inside = sym c.requires.end.same ∙ ends in
    let served : EndIsServed tb (an_option c.in-Option.inside) =
    subst (EndIsServed tb) ends c.requires.end.served in
    let steps : 0 < c.args.steps =
    rank_some rules c.args.steps (of_shape c.args.shape) c.requires.ranked in
    let more : c.args.steps ≡ suc (c.args.steps - 1) = omega arith in (
      omega arith,
      (
        c.requires.sound,
        (
          c.requires.inside,
          (
            served,
            ranked_inside rules (c.args.steps - 1) c.args.shape c.in-Option.inside
                (subst (λ n. IsRanked n rules (of_shape c.args.shape)) more c.requires.ranked) is,
          ),
        ),
      ),
    )

pub target::read_end-read_tuple-requires :
    goal.target::read_end-read_tuple-requires
target::read_end-read_tuple-requires t c =
    let tb = c.args.tables.now in
    let rules : Rules = rules_at tb in
    let nodes = c.args.nodes.now in
    let v : Tree = value_of nodes c.args.node in
    let ends : end_view c.args.end.now ≡ a_tuple c.deref.result.now =
    ap end_view c.in-Tuple.is ∙ ap a_tuple (sym c.deref.ensures.value) in
    let is : rules.end_of c.args.shape ≡ a_tuple c.deref.result.now = sym c.requires.end.same ∙ ends in (
      omega arith,
      (
        c.requires.sound,
        (c.requires.inside, subst (EndIsServed tb) ends c.requires.end.served),
      ),
    )

pub target::read_end-read_untagged-requires :
    goal.target::read_end-read_untagged-requires
target::read_end-read_untagged-requires t c =
    let tb = c.args.tables.now in
    let rules : Rules = rules_at tb in
    let nodes = c.args.nodes.now in
    let v : Tree = value_of nodes c.args.node in
    let joined : ListId = list_view c.in-UntaggedVariant.joined in
    let alone : List Alternative = map alternative_view c.deref-in-UntaggedVariant.result.now in
    let ends : end_view c.args.end.now ≡ an_untagged_variant joined alone =
    ap end_view c.in-UntaggedVariant.is
    ∙ ap (λ (others : List code_alternative.Alternative).
    an_untagged_variant (list_view c.in-UntaggedVariant.joined) (map alternative_view others))
    (sym c.deref-in-UntaggedVariant.ensures.value) in
    let is : rules.end_of c.args.shape ≡ an_untagged_variant joined alone = sym c.requires.end.same ∙ ends in
    let served : EndIsServed tb (an_untagged_variant joined alone) =
    subst (EndIsServed tb) ends c.requires.end.served in (
      omega arith,
      (
        c.requires.sound,
        (
          c.requires.inside,
          (
            served.0,
            (
              served.1,
              ranked_alternatives rules c.args.steps c.args.shape joined alone c.requires.ranked is,
            ),
          ),
        ),
      ),
    )

pub target::read_end-returns-in-Null-clause-told :
    goal.target::read_end-returns-in-Null-clause-told
target::read_end-returns-in-Null-clause-told t c =
    let tb = c.args.tables.now in
    let rules : Rules = rules_at tb in
    let nodes = c.args.nodes.now in
    let v : Tree = value_of nodes c.args.node in
    let ends : end_view c.args.end.now ≡ an_option c.in-Option.inside =
    ap end_view c.in-Option.is in
    let is : rules.end_of c.args.shape ≡ an_option c.in-Option.inside = sym c.requires.end.same ∙ ends in
    let tree : v ≡ null = sym c.value.ensures ∙ (ap view c.in-Null.is ∙ seen_null) in
    let one : IsCount tb nodes c.args.node (of_shape c.args.shape) One =
    (same_one (ReadsValue rules (of_shape c.args.shape) v)
    (ReadsEnd rules (inner rules) (an_option c.in-Option.inside) v)
    (by_end rules c.args.steps c.args.shape (an_option c.in-Option.inside) v c.requires.ranked
    is)).1
    (subst (λ u. Counted (ReadsEnd rules (inner rules) (an_option c.in-Option.inside) u) One)
    (sym tree) (count_of_absent rules (inner rules) c.in-Option.inside)) in
    let by = (by_end rules c.args.steps c.args.shape (an_option c.in-Option.inside) v
    c.requires.ranked is one.value).0 one.has in
    let plain : one.value ≡ a_value =
    subst (λ u. ReadsEnd rules (inner rules) (an_option c.in-Option.inside) u one.value) tree by in (
      one,
      told_as_it_is tb nodes c.args.node (of_shape c.args.shape) c.as_it_is.result
          c.value-in-Null.result one.value c.value-in-Null.ensures one.has plain
          c.as_it_is.ensures.variants c.as_it_is.ensures.kind,
    )

pub target::read_end-returns-in_default-value :
    goal.target::read_end-returns-in_default-value
target::read_end-returns-in_default-value t c =
    let tb = c.args.tables.now in
    let rules : Rules = rules_at tb in
    let nodes = c.args.nodes.now in
    let v : Tree = value_of nodes c.args.node in
    let ends : end_view c.args.end.now ≡ an_option c.in-Option.inside =
    ap end_view c.in-Option.is in
    let is : rules.end_of c.args.shape ≡ an_option c.in-Option.inside = sym c.requires.end.same ∙ ends in
    let some : is_null v ≡ false =
    ap is_null (sym c.value.ensures)
    ∙ seen_no_null c.value.result.now c.in_default-value.not-Null in
    record {
      sound = c.read_shape.ensures.sound;
      told = read_by_end tb nodes c.args.node c.args.steps c.args.shape
          (an_option c.in-Option.inside) c.read_shape.result c.requires.ranked is
          (read_as (IsToldAt tb nodes c.args.node (of_shape c.in-Option.inside))
          (IsToldAs tb nodes c.args.node (an_option c.in-Option.inside))
          (IsCount tb nodes c.args.node (of_shape c.in-Option.inside) One)
          (Counted (ReadsEnd rules (inner rules) (an_option c.in-Option.inside) v) One)
          c.read_shape.result
          (λ w one h.
          record {
            reading = h.reading;
            reads = option_reads rules (inner rules) c.in-Option.inside v h.reading some h.reads;
            tells = inside c.in-Option.inside v h.reading w.variants.items w.kind h.tells;
          })
          (λ one. count_of_present rules (inner rules) c.in-Option.inside v One some one)
          (λ one. one_inside rules (inner rules) c.in-Option.inside v some one)
          c.read_shape.ensures.told);
    }

pub target::read_end-returns-in-List-clause-told :
    goal.target::read_end-returns-in-List-clause-told
target::read_end-returns-in-List-clause-told t c =
    let tb = c.args.tables.now in
    let rules : Rules = rules_at tb in
    let nodes = c.args.nodes.now in
    let v : Tree = value_of nodes c.args.node in
    let ends : end_view c.args.end.now ≡ a_list c.in-List.item =
    ap end_view c.in-List.is in
    let is : rules.end_of c.args.shape ≡ a_list c.in-List.item = sym c.requires.end.same ∙ ends in
    read_by_end tb nodes c.args.node c.args.steps c.args.shape (a_list c.in-List.item)
    c.read_items.result c.requires.ranked is c.read_items.ensures.told

pub target::read_end-returns-in-Tuple-clause-told :
    goal.target::read_end-returns-in-Tuple-clause-told
target::read_end-returns-in-Tuple-clause-told t c =
    let tb = c.args.tables.now in
    let rules : Rules = rules_at tb in
    let nodes = c.args.nodes.now in
    let v : Tree = value_of nodes c.args.node in
    let ends : end_view c.args.end.now ≡ a_tuple c.deref.result.now =
    ap end_view c.in-Tuple.is ∙ ap a_tuple (sym c.deref.ensures.value) in
    let is : rules.end_of c.args.shape ≡ a_tuple c.deref.result.now = sym c.requires.end.same ∙ ends in
    read_by_end tb nodes c.args.node c.args.steps c.args.shape (a_tuple c.deref.result.now)
    c.read_tuple.result c.requires.ranked is c.read_tuple.ensures.told

pub target::read_end-returns-in-Map-clause-told :
    goal.target::read_end-returns-in-Map-clause-told
target::read_end-returns-in-Map-clause-told t c =
    let tb = c.args.tables.now in
    let rules : Rules = rules_at tb in
    let nodes = c.args.nodes.now in
    let v : Tree = value_of nodes c.args.node in
    let ends : end_view c.args.end.now ≡ a_map c.in-Map.key c.in-Map.value =
    ap end_view c.in-Map.is in
    let is : rules.end_of c.args.shape ≡ a_map c.in-Map.key c.in-Map.value = sym c.requires.end.same ∙ ends in
    read_by_end tb nodes c.args.node c.args.steps c.args.shape (a_map c.in-Map.key c.in-Map.value)
    c.read_entries.result c.requires.ranked is c.read_entries.ensures.told

pub target::read_end-returns-in-Object-value-clause-told :
    goal.target::read_end-returns-in-Object-value-clause-told
target::read_end-returns-in-Object-value-clause-told t c =
    let tb = c.args.tables.now in
    let rules : Rules = rules_at tb in
    let nodes = c.args.nodes.now in
    let v : Tree = value_of nodes c.args.node in
    let ends : end_view c.args.end.now ≡ an_object (list_view c.in-Object.list) =
    ap end_view c.in-Object.is in
    let is : rules.end_of c.args.shape ≡ an_object (list_view c.in-Object.list) = sym c.requires.end.same ∙ ends in
    let id : ListId = list_view c.in-Object.list in
    let so : is_object v ≡ true =
    ap is_object (sym c.value-in-Object.ensures ∙ (ap view c.in-Object-value.is
    ∙ seen_object c.in-Object-value.field-0)) in
    read_by_end tb nodes c.args.node c.args.steps c.args.shape (an_object id) c.read_object.result
    c.requires.ranked is
    (read_as (IsToldBy tb nodes c.args.node id) (IsToldAs tb nodes c.args.node (an_object id))
    (Counted (ReadsObject rules (ReadsValue rules) id (members_in v)) One)
    (Counted (ReadsEnd rules (inner rules) (an_object id) v) One) c.read_object.result
    (λ w one h.
    record {
      reading = choices.an_object h.choice;
      reads = object_reads rules (inner rules) id v h.choice so h.reads;
      tells = tells_object rules tb.shapes.now id h.object h.values h.rest v h.choice
          w.variants.items w.kind so h.variants_are h.kind_is h.tells;
    })
    (object_end_one rules (inner rules) id v so)
    (λ one. (object_has_one rules (inner rules) id v one).1) c.read_object.ensures.told)

pub target::read_end-returns-in_default-value-2 :
    goal.target::read_end-returns-in_default-value-2
target::read_end-returns-in_default-value-2 t c =
    let tb = c.args.tables.now in
    let rules : Rules = rules_at tb in
    let nodes = c.args.nodes.now in
    let v : Tree = value_of nodes c.args.node in
    let ends : end_view c.args.end.now ≡ an_object (list_view c.in-Object.list) =
    ap end_view c.in-Object.is in
    let is : rules.end_of c.args.shape ≡ an_object (list_view c.in-Object.list) = sym c.requires.end.same ∙ ends in
    let id : ListId = list_view c.in-Object.list in
    let is_not : is_object v ≡ false =
    ap is_object (sym c.value-in-Object.ensures)
    ∙ seen_no_object c.value-in-Object.result.now c.in_default-value-2.not-Object in
    record {
      sound = c.requires.sound;
      told = λ one.
          let by = (same_one (ReadsValue rules (of_shape c.args.shape) v)
          (ReadsEnd rules (inner rules) (an_object id) v)
          (by_end rules c.args.steps c.args.shape (an_object id) v c.requires.ranked is)).0 one in
          let so = (object_has_one rules (inner rules) id v by).0 in absurd (cc);
    }

pub target::read_end-returns-in-NamedVariant-clause-told :
    goal.target::read_end-returns-in-NamedVariant-clause-told
target::read_end-returns-in-NamedVariant-clause-told t c =
    let tb = c.args.tables.now in
    let rules : Rules = rules_at tb in
    let nodes = c.args.nodes.now in
    let v : Tree = value_of nodes c.args.node in
    let ends : end_view c.args.end.now ≡ a_named_variant (map named_view c.deref-in-NamedVariant.result.now) =
    ap end_view c.in-NamedVariant.is
    ∙ ap (λ vs. a_named_variant (map named_view vs)) (sym c.deref-in-NamedVariant.ensures.value) in
    let is : rules.end_of c.args.shape ≡ a_named_variant (map named_view c.deref-in-NamedVariant.result.now) = sym c.requires.end.same ∙ ends in
    read_by_end tb nodes c.args.node c.args.steps c.args.shape (a_named_variant (map named_view c.deref-in-NamedVariant.result.now))
    c.read_named.result c.requires.ranked is c.read_named.ensures.told

pub target::read_end-returns-in-UntaggedVariant-clause-told :
    goal.target::read_end-returns-in-UntaggedVariant-clause-told
target::read_end-returns-in-UntaggedVariant-clause-told t c =
    let tb = c.args.tables.now in
    let rules : Rules = rules_at tb in
    let nodes = c.args.nodes.now in
    let v : Tree = value_of nodes c.args.node in
    let joined : ListId = list_view c.in-UntaggedVariant.joined in
    let alone : List Alternative = map alternative_view c.deref-in-UntaggedVariant.result.now in
    let ends : end_view c.args.end.now ≡ an_untagged_variant joined alone =
    ap end_view c.in-UntaggedVariant.is
    ∙ ap (λ (others : List code_alternative.Alternative).
    an_untagged_variant (list_view c.in-UntaggedVariant.joined) (map alternative_view others))
    (sym c.deref-in-UntaggedVariant.ensures.value) in
    let is : rules.end_of c.args.shape ≡ an_untagged_variant joined alone = sym c.requires.end.same ∙ ends in
    read_by_end tb nodes c.args.node c.args.steps c.args.shape (an_untagged_variant joined alone)
    c.read_untagged.result c.requires.ranked is c.read_untagged.ensures.told

pub target::read_end-returns-in_default-clause-told :
    goal.target::read_end-returns-in_default-clause-told
target::read_end-returns-in_default-clause-told t c =
    let tb = c.args.tables.now in
    let rules : Rules = rules_at tb in
    let nodes = c.args.nodes.now in
    let v : Tree = value_of nodes c.args.node in
    let end : End = end_view c.args.end.now in
    let scalar : is_scalar_end end ≡ true =
    scalar_rest c.args.end.now (λ i. c.in_default.not-Option i) (λ i. c.in_default.not-List i)
    (λ is. c.in_default.not-Tuple is) (λ k i. c.in_default.not-Map k i)
    (λ id. c.in_default.not-Object id) (λ vs. c.in_default.not-NamedVariant vs)
    (λ id vs. c.in_default.not-UntaggedVariant id vs) in
    read_counted tb nodes c.args.node (of_shape c.args.shape)
    (ReadsEnd rules (inner rules) end v) c.count_scalar.result c.value-value.result
    c.as_counted.result c.value-value.ensures
    (by_end rules c.args.steps c.args.shape end v c.requires.ranked (sym c.requires.end.same))
    (λ q p. scalar_value rules (inner rules) end v q scalar p)
    (scalar_count rules (inner rules) end v c.count_scalar.result scalar
    (subst (λ u. Counted (ReadsScalar end u) c.count_scalar.result) c.value-value.ensures
    c.count_scalar.ensures))
    c.as_counted.ensures

pub target::read_shape-read_end-requires :
    goal.target::read_shape-read_end-requires
target::read_shape-read_end-requires t c = (
  omega arith,
  (
    c.requires.sound,
    (
      c.requires.inside,
      (
        c.requires.sound.tables.ends c.args.shape c.end.result.now c.end.ensures,
        c.requires.ranked,
      ),
    ),
  ),
)

pub target::read_target-returns-in-Shape-clause-told :
    goal.target::read_target-returns-in-Shape-clause-told
target::read_target-returns-in-Shape-clause-told t c =
    subst
    (λ x. IsRead (IsToldAt c.args.tables.now c.args.nodes.now c.args.node x)
    (IsCount c.args.tables.now c.args.nodes.now c.args.node x One) c.read_shape.result)
    (sym (ap target_view c.in-Shape.is)) c.read_shape.ensures.told

pub target::read_target-returns-in-Content-clause-told :
    goal.target::read_target-returns-in-Content-clause-told
target::read_target-returns-in-Content-clause-told t c =
    subst
    (λ x. IsRead (IsToldAt c.args.tables.now c.args.nodes.now c.args.node x)
    (IsCount c.args.tables.now c.args.nodes.now c.args.node x One) c.read_content.result)
    (sym (ap target_view c.in-Content.is)) c.read_content.ensures.told

pub target::read_target-returns-in-Tag-clause-told :
    goal.target::read_target-returns-in-Tag-clause-told
target::read_target-returns-in-Tag-clause-told t c =
    let tb = c.args.tables.now in
    let rules : Rules = rules_at tb in
    let nodes = c.args.nodes.now in
    let v : Tree = value_of nodes c.args.node in
    let name = c.in-Tag.name.now in
    let is : target_view c.args.target.now ≡ of_tag name = ap target_view c.in-Tag.is in
    subst
    (λ x. IsRead (IsToldAt tb nodes c.args.node x) (IsCount tb nodes c.args.node x One)
    c.as_counted.result) (sym is)
    (read_counted tb nodes c.args.node (of_tag name) (ReadsTag name v) c.count_tag.result
    c.value-value.result c.as_counted.result c.value-value.ensures
    (λ q. value_by_parts rules 1 (of_tag name) v (ranked_tag rules 0 name) q)
    (λ q p. tag_text name v q p)
    (subst (λ u. Counted (ReadsTag name u) c.count_tag.result) c.value-value.ensures
    c.count_tag.ensures)
    c.as_counted.ensures)

pub untagged::read_alternative-returns-clause-told :
    goal.untagged::read_alternative-returns-clause-told
untagged::read_alternative-returns-clause-told t c =
    let tb = c.args.tables.now in
    let rules : Rules = rules_at tb in
    let v : Tree = value_of c.args.nodes.now c.args.node in
    let a : Alternative = alternative_view c.args.alternative.now in
    let new = c.in_ok-put_within.ensures in (
      c.requires.one,
      elim c.match-alternative.branch [
        | untagged::read_alternative-in-Null w ↦
            let none : c.match-alternative.reading.variants.items ≡ [] =
            ap (λ (q : code_reading.Reading). q.variants.items) w.reading-is
            ∙ w.as_it_is-reading.ensures.variants in
            record {
              reading = a_value;
              reads = subst
                  (λ kind. ReadsByAlternative kind a_value (ReadsValue rules a.content v a_value))
                  (sym (ap kind_view w.in-Null.is)) refl;
              name = new.name;
              names = [];
              is_of = new.is_of;
              variants_are = new.variants_are ∙ ap (λ ns. new.name ∷ ns) none;
              tells = tells_as_it_is rules tb.shapes.now (end_of_target rules a.content) v a_value []
                  c.put_within.new.reading.kind w.value.result w.value.ensures refl refl
                  (new.kind_is ∙ (ap (λ (q : code_reading.Reading). q.kind) w.reading-is
                  ∙ w.as_it_is-reading.ensures.kind));
            }
        | untagged::read_alternative-in_default+in_ok-reading-in_default w ↦
            let told = w.in_ok-reading-in_default.ensures.told.1 in
            let apart = λ (e : a.kind ≡ types.null_alone).
            w.in_default.not-Null (null_seen c.args.alternative.now.kind e) in
            record {
              reading = told.reading;
              reads = reads_by_content a.kind told.reading
                  (ReadsValue rules a.content v told.reading) apart told.reads;
              name = new.name;
              names = w.in_ok-reading-in_default.reading.variants.items;
              is_of = new.is_of;
              variants_are = new.variants_are
                  ∙ ap (λ (q : code_reading.Reading). new.name ∷ q.variants.items) w.reading-is;
              tells = tells_same rules tb.shapes.now (end_of_target rules a.content) v told.reading
                  w.in_ok-reading-in_default.reading.variants.items
                  w.in_ok-reading-in_default.reading.variants.items
                  w.in_ok-reading-in_default.reading.kind c.put_within.new.reading.kind refl
                  (sym (new.kind_is ∙ ap (λ (q : code_reading.Reading). q.kind) w.reading-is))
                  told.tells;
            }
      ],
    )

pub untagged::read_untagged-returns-then-all_join-clause-told :
    goal.untagged::read_untagged-returns-then-all_join-clause-told
untagged::read_untagged-returns-then-all_join-clause-told t c =
    let tb = c.args.tables.now in
    let rules : Rules = rules_at tb in
    let nodes = c.args.nodes.now in
    let v : Tree = value_of nodes c.args.node in
    let joined : ListId = list_view c.args.joined.now in
    let alone : List Alternative = map alternative_view c.args.alone.now in
    let W = ReadsEnd rules (inner rules) (an_untagged_variant joined alone) v in
    let so : is_object v ≡ true = elim c.match-matches.branch [
      | untagged::read_untagged-in-Object w ↦
          ap is_object (sym c.value.ensures ∙ (ap view w.in-Object.is
          ∙ seen_object w.in-Object.field-0))
      | untagged::read_untagged-in_default w ↦
          let no : false ≡ true = sym w.matches-is ∙ c.if-matches.true in absurd (cc)
    ] in
    let same = joined_end_one rules (inner rules) joined c.args.alone.now
    (sym c.all_join.ensures ∙ c.if-all_join.true) v so in
    read_as (IsToldBy tb nodes c.args.node joined)
    (IsToldAs tb nodes c.args.node (an_untagged_variant joined alone))
    (Counted (ReadsObject rules (ReadsValue rules) joined (members_in v)) One) (Counted W One)
    c.read_object.result
    (λ w one h. record {
      reading = choices.an_object h.choice;
      reads = joined_reads rules (inner rules) joined alone v h.choice so h.reads;
      tells = tells_joined rules tb.shapes.now joined h.object h.values h.rest alone v h.choice
          w.variants.items w.kind so h.variants_are h.kind_is h.tells;
    }) same.0 same.1 c.read_object.ensures.told

pub untagged::read_untagged-returns-in_default-2 :
    goal.untagged::read_untagged-returns-in_default-2
untagged::read_untagged-returns-in_default-2 t c =
    let tb = c.args.tables.now in
    let rules : Rules = rules_at tb in
    let nodes = c.args.nodes.now in
    let v : Tree = value_of nodes c.args.node in
    let joined : ListId = list_view c.args.joined.now in
    let alone : List Alternative = map alternative_view c.args.alone.now in
    let W = ReadsEnd rules (inner rules) (an_untagged_variant joined alone) v in
    record {
      sound = c.in_ok-count_untagged.ensures.sound;
      told = not_one_of W c.in_ok-count_untagged.field-0 c.in_default-2.not-One
          c.in_ok-count_untagged.ensures.count;
    }

pub untagged::read_untagged-read_alternative-requires :
    goal.untagged::read_untagged-read_alternative-requires
untagged::read_untagged-read_alternative-requires t c =
    let tb = c.args.tables.now in
    let rules : Rules = rules_at tb in
    let nodes = c.args.nodes.now in
    let v : Tree = value_of nodes c.args.node in
    let joined : ListId = list_view c.args.joined.now in
    let alone : List Alternative = map alternative_view c.args.alone.now in
    let W = ReadsEnd rules (inner rules) (an_untagged_variant joined alone) v in
    let one : Counted W One =
    subst (Counted W) c.in-One.is c.in_ok-count_untagged.ensures.count in
    let k : ℕ = c.in-Some.k in
    let read = subst (IsUntagged rules (an_untagged_variant joined alone) v) c.in-Some.is
    c.in_ok-alternative_index.ensures.chosen in
    let within : k < length alone =
    variant_within rules (inner rules) joined alone v k read.0 read.1 in
    let there : slice_get c.args.alone.now k ≡ Some c.index-alone-k.result =
    slice_get_read c.args.alone.now (length c.args.alone.now) k c.index-alone-k.result refl
    (omega (arith, length-map c.args.alone.now alternative_view)) c.index-alone-k.is in
    let a : Alternative = alternative_view c.index-alone-k.result in
    let seen : slice_get alone k ≡ Some a =
    seen_at alternative_view c.args.alone.now k c.index-alone-k.result there in (
      omega arith,
      (
        c.in_ok-alternative_index.ensures.sound,
        (
          c.requires.inside,
          (
            at_seen (λ (b : Alternative). IsServed tb b.content) alternative_view c.args.alone.now k
                c.index-alone-k.result there c.requires.served,
            (
              at_seen (λ (b : Alternative). IsRankedAlternative rules c.args.steps b)
                  alternative_view c.args.alone.now k c.index-alone-k.result there
                  c.requires.ranked,
              one_alternative rules (inner rules) joined alone v k a seen one read.0 read.1,
            ),
          ),
        ),
      ),
    )

pub untagged::read_untagged-returns-in-None-clause-told :
    goal.untagged::read_untagged-returns-in-None-clause-told
untagged::read_untagged-returns-in-None-clause-told t c =
    let tb = c.args.tables.now in
    let rules : Rules = rules_at tb in
    let nodes = c.args.nodes.now in
    let v : Tree = value_of nodes c.args.node in
    let joined : ListId = list_view c.args.joined.now in
    let alone : List Alternative = map alternative_view c.args.alone.now in
    let W = ReadsEnd rules (inner rules) (an_untagged_variant joined alone) v in
    let one : Counted W One =
    subst (Counted W) c.in-One.is c.in_ok-count_untagged.ensures.count in
    let read = subst (IsUntagged rules (an_untagged_variant joined alone) v) c.in-None.is
    c.in_ok-alternative_index.ensures.chosen in
    let object = joined_one rules (inner rules) joined alone v read.0 read.1 one in
    read_as (IsToldBy tb nodes c.args.node joined)
    (IsToldAs tb nodes c.args.node (an_untagged_variant joined alone))
    (Counted (ReadsObject rules (ReadsValue rules) joined (members_in v)) One) (Counted W One)
    c.read_object-in-None.result
    (λ w one h. record {
      reading = choices.an_object h.choice;
      reads = joined_reads rules (inner rules) joined alone v h.choice object.0 h.reads;
      tells = tells_joined rules tb.shapes.now joined h.object h.values h.rest alone v h.choice
          w.variants.items w.kind object.0 h.variants_are h.kind_is h.tells;
    }) (λ two. one) (λ two. object.1) c.read_object-in-None.ensures.told

pub untagged::read_untagged-returns-in-Some-clause-told :
    goal.untagged::read_untagged-returns-in-Some-clause-told
untagged::read_untagged-returns-in-Some-clause-told t c =
    let tb = c.args.tables.now in
    let rules : Rules = rules_at tb in
    let nodes = c.args.nodes.now in
    let v : Tree = value_of nodes c.args.node in
    let joined : ListId = list_view c.args.joined.now in
    let alone : List Alternative = map alternative_view c.args.alone.now in
    let W = ReadsEnd rules (inner rules) (an_untagged_variant joined alone) v in
    let one : Counted W One =
    subst (Counted W) c.in-One.is c.in_ok-count_untagged.ensures.count in
    let k : ℕ = c.in-Some.k in
    let read = subst (IsUntagged rules (an_untagged_variant joined alone) v) c.in-Some.is
    c.in_ok-alternative_index.ensures.chosen in
    let within : k < length alone =
    variant_within rules (inner rules) joined alone v k read.0 read.1 in
    let there : slice_get c.args.alone.now k ≡ Some c.index-alone-k.result =
    slice_get_read c.args.alone.now (length c.args.alone.now) k c.index-alone-k.result refl
    (omega (arith, length-map c.args.alone.now alternative_view)) c.index-alone-k.is in
    let a : Alternative = alternative_view c.index-alone-k.result in
    let seen : slice_get alone k ≡ Some a =
    seen_at alternative_view c.args.alone.now k c.index-alone-k.result there in
    read_as (IsToldAlternative tb nodes c.args.node a)
    (IsToldAs tb nodes c.args.node (an_untagged_variant joined alone))
    (IsOnlyAlternative tb nodes c.args.node a) (Counted W One) c.read_alternative.result
    (λ w only h.
    alternative_told tb nodes c.args.node joined alone k a read.0 w seen read.1 one h)
    (λ only. one)
    (λ two. one_alternative rules (inner rules) joined alone v k a seen one read.0 read.1)
    c.read_alternative.ensures.told

pub variant::read_member-read_target-requires :
    goal.variant::read_member-read_target-requires
variant::read_member-read_target-requires t c =
    let tb = c.args.tables.now in
    let rules : Rules = rules_at tb in
    let nodes = c.args.nodes.now in
    let v : Tree = value_of nodes c.args.node in
    let vs : List NamedVariant = map named_view c.args.variants.now in
    let k : ℕ = c.match-only_named.k in
    let w : Tree = value_of nodes c.child-content.result in
    let N = ReadsEnd rules (inner rules) (a_named_variant vs) v in
    let index : IsIndexOf rules vs v c.args.name.now k = elim c.match-only_named.branch [
      | variant::read_member-in-Some m ↦
          subst (IsIndexOf rules vs v c.args.name.now) (sym m.k-is) (inl m.in-Some.ensures)
      | variant::read_member-in-None+in_ok-k-in-None m ↦
          let told = m.in_ok-k-in-None.ensures.chosen in
          subst (IsIndexOf rules vs v c.args.name.now) (sym m.k-is) (inr told)
    ] in
    let within : k < length c.args.variants.now =
    omega (
      arith,
      index_within rules vs v c.args.name.now k index,
      length-map c.args.variants.now named_view,
    ) in
    let there : slice_get c.args.variants.now k ≡ Some c.index-variants-k.result =
    slice_get_read c.args.variants.now (length c.args.variants.now) k c.index-variants-k.result refl
    within c.index-variants-k.is in
    let a : NamedVariant = named_view c.index-variants-k.result in
    let seen : slice_get vs k ≡ Some a =
    seen_at named_view c.args.variants.now k c.index-variants-k.result there in
    let served : IsServed tb a.content =
    at_seen (λ (b : NamedVariant). IsServed tb b.content) named_view c.args.variants.now k
    c.index-variants-k.result there c.requires.1.1.1.1.1 in
    let falls = child_levels nodes c.args.node c.child-content.result 0 tb.steps
    c.child-content.ensures.child (omega arith) in (
      omega arith,
      (
        elim c.match-only_named.branch [
          | variant::read_member-in-Some m ↦ rw m.memo-is c.requires.1.1.0
          | variant::read_member-in-None+in_ok-k-in-None m ↦
              rw m.memo-is m.in_ok-k-in-None.ensures.sound
        ],
        (
          c.child-content.ensures.in_range,
          (served, ranked_target tb a.content c.requires.1.1.0.tables served),
        ),
      ),
    )

pub variant::read_member-returns-in_err-reading-clause-told :
    goal.variant::read_member-returns-in_err-reading-clause-told
variant::read_member-returns-in_err-reading-clause-told t c =
    let tb = c.args.tables.now in
    let rules : Rules = rules_at tb in
    let nodes = c.args.nodes.now in
    let v : Tree = value_of nodes c.args.node in
    let vs : List NamedVariant = map named_view c.args.variants.now in
    let k : ℕ = c.match-only_named.k in
    let w : Tree = value_of nodes c.child-content.result in
    let N = ReadsEnd rules (inner rules) (a_named_variant vs) v in
    let index : IsIndexOf rules vs v c.args.name.now k = elim c.match-only_named.branch [
      | variant::read_member-in-Some m ↦
          subst (IsIndexOf rules vs v c.args.name.now) (sym m.k-is) (inl m.in-Some.ensures)
      | variant::read_member-in-None+in_ok-k-in-None m ↦
          let told = m.in_ok-k-in-None.ensures.chosen in
          subst (IsIndexOf rules vs v c.args.name.now) (sym m.k-is) (inr told)
    ] in
    let within : k < length c.args.variants.now =
    omega (
      arith,
      index_within rules vs v c.args.name.now k index,
      length-map c.args.variants.now named_view,
    ) in
    let there : slice_get c.args.variants.now k ≡ Some c.index-variants-k.result =
    slice_get_read c.args.variants.now (length c.args.variants.now) k c.index-variants-k.result refl
    within c.index-variants-k.is in
    let a : NamedVariant = named_view c.index-variants-k.result in
    let seen : slice_get vs k ≡ Some a =
    seen_at named_view c.args.variants.now k c.index-variants-k.result there in
    let tree = as_member v c.args.name.now w c.requires.1.1.1.1.0 c.child-content.ensures.child in
    let same = member_once rules vs v c.args.name.now k a seen w tree index in
    read_err _ _ c.from_residual-in_err-reading.result c.in_err-reading.field-0.0
    c.from_residual-in_err-reading.ensures.0 c.from_residual-in_err-reading.ensures.1
    (not_one_then c.in_err-reading.field-0.0 (Counted (ReadsValue rules a.content w) One)
    (Counted N One) same.1 c.in_err-reading.ensures.told)

pub variant::read_member-returns-clause-told :
    goal.variant::read_member-returns-clause-told
variant::read_member-returns-clause-told t c =
    let tb = c.args.tables.now in
    let rules : Rules = rules_at tb in
    let nodes = c.args.nodes.now in
    let v : Tree = value_of nodes c.args.node in
    let vs : List NamedVariant = map named_view c.args.variants.now in
    let k : ℕ = c.match-only_named.k in
    let w : Tree = value_of nodes c.child-content.result in
    let N = ReadsEnd rules (inner rules) (a_named_variant vs) v in
    let index : IsIndexOf rules vs v c.args.name.now k = elim c.match-only_named.branch [
      | variant::read_member-in-Some m ↦
          subst (IsIndexOf rules vs v c.args.name.now) (sym m.k-is) (inl m.in-Some.ensures)
      | variant::read_member-in-None+in_ok-k-in-None m ↦
          let told = m.in_ok-k-in-None.ensures.chosen in
          subst (IsIndexOf rules vs v c.args.name.now) (sym m.k-is) (inr told)
    ] in
    let within : k < length c.args.variants.now =
    omega (
      arith,
      index_within rules vs v c.args.name.now k index,
      length-map c.args.variants.now named_view,
    ) in
    let there : slice_get c.args.variants.now k ≡ Some c.index-variants-k.result =
    slice_get_read c.args.variants.now (length c.args.variants.now) k c.index-variants-k.result refl
    within c.index-variants-k.is in
    let a : NamedVariant = named_view c.index-variants-k.result in
    let seen : slice_get vs k ≡ Some a =
    seen_at named_view c.args.variants.now k c.index-variants-k.result there in
    let tree = as_member v c.args.name.now w c.requires.1.1.1.1.0 c.child-content.ensures.child in
    let same = member_once rules vs v c.args.name.now k a seen w tree index in
    let found = roll-Reading (record {
      variants = c.in_ok-vec.field-0;
      kind = kinds.Content c.in_ok-new.field-0;
    }) in
    let told = c.in_ok-reading.ensures.told in
    let so : is_object v ≡ true = ap is_object tree in (
      same.0 told.0,
      member_told tb nodes c.args.node c.child-content.result vs k a told.1.reading
          c.name_of-name.result c.in_ok-new.field-0 found seen
          (into_named rules (inner rules) vs v c.args.name.now w tree k a seen
          (index_named rules vs v c.args.name.now k a seen w tree index) told.1.reading told.1.reads)
          so c.child-content.ensures.child
          (subst (IsToldAt tb nodes c.child-content.result a.content) (sym c.in_ok-new.ensures.ok) told.1)
          c.name_of-name.ensures c.in_ok-vec.ensures.items refl,
    )

pub variant::read_named-returns-then-len-ne1-clause-told :
    goal.variant::read_named-returns-then-len-ne1-clause-told
variant::read_named-returns-then-len-ne1-clause-told t c =
    let reads = ReadsValue (rules_at c.args.tables.now) in
    let vs : List NamedVariant = map named_view c.args.variants.now in
    let items = c.in-Object.members.items in
    let tree : value_of c.args.nodes.now c.args.node ≡ object (members_view items) =
    sym c.value.ensures ∙ (ap view c.in-Object.is ∙ seen_object c.in-Object.members) in
    let none = subst (λ u. Counted (ReadsNamedVariant reads vs u) NoCount) (sym tree)
    (count_of_other_members reads vs (members_view items)
    (λ one. absurd (c.if-len-ne1.true (omega (
      arith,
      one,
      ap length (seen_members items),
      length-map items member_seen,
      c.len.ensures,
    ))))) in
    λ one. none one.value one.has

pub variant::read_named-read_member-requires : goal.variant::read_named-read_member-requires
variant::read_named-read_member-requires t c =
    let v : Tree = value_of c.args.nodes.now c.args.node in
    let items = c.in-Object.members.items in
    let tree : v ≡ object (members_view items) =
    sym c.value.ensures ∙ (ap view c.in-Object.is ∙ seen_object c.in-Object.members) in
    let only = only_member v items c.index.result.now tree
    (omega (arith, c.len.ensures, c.if-len-ne1.false)) in (
      omega arith,
      (
        c.requires.sound,
        (
          c.requires.inside,
          (
            subst (λ (m : Bor Name × Document). IsOnlyMember v m.0.now) (sym c.index.ensures) only,
            c.requires.served,
          ),
        ),
      ),
    )
