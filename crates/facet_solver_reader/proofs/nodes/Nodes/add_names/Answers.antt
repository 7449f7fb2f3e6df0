use Rattle.std.proofs.Common.{◌≡◌, ℕ, List, ◌++◌, drop, take, length, ap, sym, subst, ◌∙◌, arith, Some, IsPermutation, refl}
use Rattle.facet_solver_reader.specs.declared.nodes.Opening.{Opening}
use Rattle.facet_solver_reader.specs.Documents.{members, members_view}
use Rattle.facet_solver_reader.specs.Nodes.{AreNamesOf, AreNumbered, Named, Node, nodes_of}
use Rattle.facet_solver_reader.proofs.Opened.{names_sorted, numbered-names, repeated_member, sorted_is, whole}
use Rattle.facet_solver_reader.proofs.nodes.Nodes.add_names.Goals as goal

pub place-requires-clause-under_way : goal.place-requires-clause-under_way
place-requires-clause-under_way c =
    let old = c.args.self.now in
    let added = c.push_names.new.by_name in
    let sorted = c.sort_from.new.named in
    let start : c.len-start.result ≡ length old.by_name.items = omega (arith, c.len-start.ensures, old.by_name.ok.0) in
    let all : take added.len (sorted ++ drop (length sorted) added.items) ≡ sorted =
    whole added.len sorted _ (omega (arith, c.sort_from.ensures.length, c.deref_mut.ensures.len, ap length c.deref_mut.ensures.value, added.ok.0)) in
    let kept : sorted ≡ old.by_name.items ++ drop c.len-start.result sorted =
    sorted_is (members (members_view c.args.members.now)) c.len.result c.len-start.result old.by_name.items added.items sorted c.in_ok-push_names.ensures start
    (c.sort_from.ensures.before ∙ ap (take c.len-start.result) c.deref_mut.ensures.value)
    (ap_moved c.len-start.result c.deref_mut.result.now added.items sorted c.deref_mut.ensures.value c.sort_from.ensures.permutation) in
    subst (AreNumbered (nodes_of old) old.openings.items) (sym (all ∙ kept)) (numbered-names (nodes_of old) old.openings.items old.by_name.items (drop c.len-start.result sorted) c.requires.under_way)
  where
    ap_moved : (start : ℕ) (seen added sorted : Named) → seen ≡ added → IsPermutation (drop start seen) (drop start sorted) → IsPermutation (drop start added) (drop start sorted)
    ap_moved start seen added sorted same moved = subst (λ (es : Named). IsPermutation (drop start es) (drop start sorted)) same moved

pub returns-in-Some-clause-err : goal.returns-in-Some-clause-err
returns-in-Some-clause-err c =
    let old = c.args.self.now in
    let added = c.push_names.new.by_name in
    let sorted = c.sort_from.new.named in
    let start : c.len-start.result ≡ length old.by_name.items = omega (arith, c.len-start.ensures, old.by_name.ok.0) in
    record {
      around = c.in_ok-place.field-0;
      name = c.in-Some.name.now;
      inner = members_view c.args.members.now;
      object_at = c.in_ok-place.ensures ∙ ap Some c.requires.value;
      twice =
          repeated_member (members (members_view c.args.members.now)) c.len.result c.len-start.result old.by_name.items added.items sorted c.in_ok-push_names.ensures start
          (c.sort_from.ensures.before ∙ ap (take c.len-start.result) c.deref_mut.ensures.value)
          (subst (λ (es : Named). IsPermutation (drop c.len-start.result es) (drop c.len-start.result sorted)) c.deref_mut.ensures.value c.sort_from.ensures.permutation)
          c.in-Some.name.now c.in-Some.ensures.sorted;
      place_is = c.in_ok-place-2.ensures;
    }

pub returns-clause-named : goal.returns-clause-named
returns-clause-named c =
    let old = c.args.self.now in
    let added = c.push_names.new.by_name in
    let sorted = c.sort_from.new.named in
    let start : c.len-start.result ≡ length old.by_name.items = omega (arith, c.len-start.ensures, old.by_name.ok.0) in
    let first : c.len.result ≡ length old.nodes.items = omega (arith, c.len.ensures, old.nodes.ok.0) in
    let all : take added.len (sorted ++ drop (length sorted) added.items) ≡ sorted =
    whole added.len sorted _ (omega (arith, c.sort_from.ensures.length, c.deref_mut.ensures.len, ap length c.deref_mut.ensures.value, added.ok.0)) in
    let before = c.sort_from.ensures.before ∙ ap (take c.len-start.result) c.deref_mut.ensures.value in
    let moved = subst (λ (es : Named). IsPermutation (drop c.len-start.result es) (drop c.len-start.result sorted)) c.deref_mut.ensures.value c.sort_from.ensures.permutation in
    let ms = members (members_view c.args.members.now) in
    record {
      nodes_are = refl {A = List Node};
      openings_are = refl {A = List Opening};
      names = drop c.len-start.result sorted;
      by_name_is = all ∙ sorted_is ms c.len.result c.len-start.result old.by_name.items added.items sorted c.in_ok-push_names.ensures start before moved;
      names_are =
          subst (λ (k : ℕ). AreNamesOf ms k (drop c.len-start.result sorted)) first
          (names_sorted ms c.len.result c.len-start.result old.by_name.items added.items sorted c.in_ok-push_names.ensures start before moved c.in_default.ensures.sorted);
    }
