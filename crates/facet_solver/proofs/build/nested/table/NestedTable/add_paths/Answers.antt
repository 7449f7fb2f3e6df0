use Rattle.std.proofs.Common.{◌≡◌, ◌∷◌, [], ◌++◌, ◌∙◌, Bor, List, Option, Some, None, ap, append-nil, ◌-◌, ◌≤◌, ℕ, arith, length, nat_lt, subst, sym, take, true}
use Rattle.std.specs.Prelude.{◌&&◌, IfNone, IfSome, Vec}
use Rattle.std.specs.FinSet as set
use Rattle.std.specs.Cow.{cow_value}
use Rattle.std.specs.List.{AllByRecursion}
use Rattle.std.specs.declared.alloc.Global.{Global}
use Rattle.std.proofs.Math.Seq.{take-append_seam}
use Rattle.std.proofs.lemmas.List.{length_push}
use Rattle.facet_solver_shape.specs.Names.{Name, names_of}
use Rattle.facet_solver_shape.specs.Resolved.{with_key_path}
use Rattle.facet_solver.specs.build.Nested.{KeyPaths, Under, paths_of_each, with_paths_behind}
use Rattle.facet_solver.specs.build.NestedLevels.{names_left, paths_of_levels, shown}
use Rattle.facet_solver.specs.build.NestedNames.{AreRising, Names, NamesLead, paths_of_names, shapes_behind}
use Rattle.facet_solver.specs.build.NestedTable.{EntriesStandFor, is_filled, paths_by_name}
use Rattle.facet_solver.specs.declared.build.nested.names_left.Level.{Level}
use Rattle.facet_solver.specs.declared.build.nested.names_left.NamesLeft.{NamesLeft}
use Rattle.facet_solver.specs.declared.build.nested.shapes_behind.ShapesBehind.{ShapesBehind}
use Rattle.facet_solver.proofs.NestedFields.{each-last, limit_of_names}
use Rattle.facet_solver.proofs.NestedLevels.{IsInside, IsNext, IsOpen, entry_paths, entry_paths-stand, gone_into, is_inside, level_names, next-added, next-smaller, next_ended, next_taken, no_levels, steps-less_far}
use Rattle.facet_solver.proofs.NestedSets.{behind-none}
use Rattle.facet_solver.proofs.NestedTable.{no_items}
use Rattle.facet_solver.proofs.build.nested.table.NestedTable.add_paths.Goals as goal
use Rattle.facet_solver.proofs.build.nested.table.NestedTable.add_paths.Goals.{in-Some+in_ok-push+in_ok-under+in_default-2+in-Owned+in-Nothing-1, in-Some+in_ok-push+in_ok-under+in_default-2+in-Owned+in-Several-1, in-Some+in_ok-push+in_ok-under+in_default-2+in-Borrowed-1, in_default+in-Some-pop}

-- what is said of an option, where it is known
if_some : {X : Type 0} (P : X → Type 0) (o : Option X) (x : X) → o ≡ Some x → IfSome o P → P x
if_some {X} P o x is h = subst (λ (q : Option X). IfSome q P) is h

if_none : {X : Type 0} (P : Type 0) (o : Option X) → o ≡ None → IfNone o P → P
if_none {X} P o is h = subst (λ (q : Option X). IfNone q P) is h

pub loop-name-init : goal.loop-name-init
loop-name-init c =
    let entries = c.args.self.now.by_index.items in
    let limit = limit_of_names c.args.fields.now.by_name.items in
    let base = c.args.prefix.now.items in
    let names : names_left c.of_entry-names.result ≡ c.args.fields.now.by_name.items = c.of_entry-names.ensures.names in
    let none : c.new-outer.result.items ≡ [] = c.new-outer.ensures.items in (
      λ under stand.
          ap (λ (ps : KeyPaths). with_paths_behind c.args.resolution.now (names_of base) ps)
          (no_levels under c.new-outer.result.items (paths_of_names under (names_left c.of_entry-names.result)) none ∙ ap (paths_of_names under) names),
      sym (ap (λ (ls : List Level). base ++ level_names ls) none ∙ append-nil base),
      record {
        lead = subst (NamesLead (is_filled entries)) (sym names) c.requires.filled;
        within = let same = ap limit_of_names names in omega (arith, same);
        rise = c.of_entry-names.ensures.rise;
      },
      subst (AllByRecursion (IsOpen entries limit)) (sym none) tt,
    )

pub names_under-requires-clause-filled : goal.names_under-requires-clause-filled
names_under-requires-clause-filled c =
    let filled = is_filled c.args.self.now.by_index.items in
    let rest = names_left c.take_last.new.self in
    let last = shown (c.in-Some.name, c.in-Some.shapes) in
    let parts = each-last (λ (e : Bor Name × ShapesBehind). AllByRecursion (λ id. filled id ≡ true) (shapes_behind e.1)) rest last (subst (NamesLead filled) c.in-Some.ensures c.loop-name.invariant.2.lead) in
    let same = c.as_slice.ensures ∙ ap shapes_behind c.deref.ensures in
    subst (AllByRecursion (λ (id : ℕ). filled id ≡ true)) (sym same) parts.0

-- a name is gone into
module _ (c : goal.Joined-shapes-7) where
  abbrev level : Level
  level = record { name = c.in-Some.name; beside = c.replace-beside.result }

  abbrev shapes : ShapesBehind
  shapes = cow_value c.in-Some.shapes

  split : names_left c.loop-name.names ≡ names_left c.replace-beside.result ++ (c.in-Some.name, shapes) ∷ []
  split = c.in-Some.ensures ∙ ap (λ (left : NamesLeft). names_left left ++ (c.in-Some.name, shapes) ∷ []) (sym c.replace-beside.ensures.value)

  same_shapes : c.as_slice.result.now ≡ shapes_behind shapes
  same_shapes = c.as_slice.ensures ∙ ap shapes_behind c.deref.ensures

  same_paths : (under : Under) → EntriesStandFor under c.args.self.now.by_index.items
      → paths_of_levels under c.push-in-Some-2.new.self.items (paths_of_names under (names_left c.replace-beside.new.dest))
      ≡ paths_of_levels under c.loop-name.outer.items (paths_of_names under (names_left c.loop-name.names))
  same_paths under stand =
      gone_into under c.loop-name.outer.items c.push-in-Some-2.new.self.items level (names_left c.loop-name.names) (names_left c.replace-beside.new.dest) shapes
      c.in_ok-push-2.ensures.items split
      (ap (λ (left : NamesLeft). paths_of_names under (names_left left)) c.replace-beside.ensures.after
      ∙ if_some _ c.in_ok-under.field-0 c.in-Some-2.under c.in-Some-2.is c.in_ok-under.ensures.paths under stand
      ∙ ap (paths_of_each under) same_shapes)

  inside : IsInside c.args.self.now.by_index.items (limit_of_names c.args.fields.now.by_name.items) c.args.prefix.now.items
      c.push.new.self.items c.push-in-Some-2.new.self.items (names_left c.loop-name.names) (names_left c.replace-beside.new.dest)
  inside =
      let entries = c.args.self.now.by_index.items in
      let after : c.replace-beside.new.dest ≡ c.in-Some-2.under = c.replace-beside.ensures.after in
      let under = c.in_ok-under.field-0 in
      let is : under ≡ Some c.in-Some-2.under = c.in-Some-2.is in
      is_inside entries (limit_of_names c.args.fields.now.by_name.items) c.args.prefix.now.items
      c.loop-name.prefix.items c.push.new.self.items c.loop-name.outer.items c.push-in-Some-2.new.self.items
      level (names_left c.loop-name.names) (names_left c.replace-beside.new.dest) shapes
      c.loop-name.invariant.2 c.loop-name.invariant.3 split c.loop-name.invariant.1 c.in_ok-push.ensures.items c.in_ok-push-2.ensures.items
      (let some = if_some _ under c.in-Some-2.under is c.in_ok-under.ensures.some in let same = ap length same_shapes in omega (arith, some, same))
      (λ top below.
      subst (λ (left : NamesLeft). NamesLead (λ t. nat_lt t top && is_filled entries t) (names_left left)) (sym after)
      (if_some _ under c.in-Some-2.under is c.in_ok-under.ensures.lead top (subst (AllByRecursion (λ (id : ℕ). id ≤ top)) (sym same_shapes) below)))
      (subst (λ (left : NamesLeft). AreRising (names_left left)) (sym after) (if_some _ under c.in-Some-2.under is c.in_ok-under.ensures.rise))

pub loop-name-smaller-in-Some-2 : goal.loop-name-smaller-in-Some-2
loop-name-smaller-in-Some-2 c =
    let entries = c.args.self.now.by_index.items in
    let under = entry_paths entries in
    steps-less_far (limit_of_names c.args.fields.now.by_name.items) _ _ _ _
    (ap set.len (same_paths c under (entry_paths-stand entries c.requires.earlier)))
    (inside c).less_far

pub loop-name-preserved-in-Some-2 : goal.loop-name-preserved-in-Some-2
loop-name-preserved-in-Some-2 c = (
  λ under stand. ap (λ (ps : KeyPaths). with_paths_behind c.loop-name.resolution (names_of c.args.prefix.now.items) ps) (same_paths c under stand) ∙ c.loop-name.invariant.0 under stand,
  (inside c).prefix_is,
  (inside c).opened,
  (inside c).levels_open,
)

pub returns-in_default-pop-clause-paths : goal.returns-in_default-pop-clause-paths
returns-in_default-pop-clause-paths c = λ under stand.
    let r = c.loop-name.resolution in
    let base = names_of c.args.prefix.now.items in
    let outer = c.loop-name.outer in
    let none : outer.items ≡ [] = (let empty = c.in_default-pop.ensures.cases.0 in let same = outer.ok.0 in no_items outer.items (omega (arith, empty, same))) in
    sym (behind-none r base)
    ∙ ap (λ (ns : Names). with_paths_behind r base (paths_of_names under ns)) (sym c.in_default.ensures.0)
    ∙ ap (with_paths_behind r base) (sym (no_levels under outer.items (paths_of_names under (names_left c.loop-name.names)) none))
    ∙ c.loop-name.invariant.0 under stand

-- what is pushed and then popped is gone
popped : {X : Type 0} (xs ys : List X) (x : X) (n : ℕ) → ys ≡ xs ++ x ∷ [] → n ≡ length ys → take (n - 1) ys ≡ xs
popped xs ys x n e is =
    ap (λ (zs : List _). take (n - 1) zs) e
    ∙ ap (λ (k : ℕ). take k (xs ++ x ∷ [])) (let l = length_push xs x in let m = ap length e in omega (arith, is, l, m))
    ∙ take-append_seam xs (x ∷ [])

-- the path of a name is added
module _ (c : goal.After-pop-in-loop-name) where
  next : IsNext c.args.self.now.by_index.items (limit_of_names c.args.fields.now.by_name.items) c.args.prefix.now.items c.match-take_last.prefix.items
      c.loop-name.outer.items c.match-take_last.outer.items (names_left c.loop-name.names) (names_left c.match-take_last.names)
  next =
      let entries = c.args.self.now.by_index.items in
      let limit = limit_of_names c.args.fields.now.by_name.items in
      let base = c.args.prefix.now.items in
      let before = c.loop-name in
      let now = c.match-take_last in
      elim c.match-take_last.branch [
        | in-Some+in_ok-push+in_ok-under+in_default-2+in-Owned+in-Nothing-1 w ↦
            (let last = shown (w.in-Some.name, w.in-Some.shapes) in
            let shapes = w.as_slice.ensures ∙ ap shapes_behind w.deref.ensures in
            next_taken entries limit base before.prefix.items now.prefix.items before.outer.items now.outer.items (names_left before.names) (names_left now.names) last
            before.invariant.1 before.invariant.2 before.invariant.3
            (ap (λ (path : Vec (Bor Name) Global). path.items) w.prefix-is ∙ w.in_ok-push.ensures.items)
            (ap (λ (levels : Vec Level Global). levels.items) w.outer-is)
            (w.in-Some.ensures ∙ ap (λ (left : NamesLeft). names_left left ++ last ∷ []) (sym w.names-is))
            (sym shapes ∙ if_none _ w.in_ok-under.field-0 w.in_default-2.is w.in_ok-under.ensures.none))
        | in-Some+in_ok-push+in_ok-under+in_default-2+in-Owned+in-Several-1 w ↦
            (let last = shown (w.in-Some.name, w.in-Some.shapes) in
            let shapes = w.as_slice.ensures ∙ ap shapes_behind w.deref.ensures in
            next_taken entries limit base before.prefix.items now.prefix.items before.outer.items now.outer.items (names_left before.names) (names_left now.names) last
            before.invariant.1 before.invariant.2 before.invariant.3
            (ap (λ (path : Vec (Bor Name) Global). path.items) w.prefix-is ∙ w.in_ok-push.ensures.items)
            (ap (λ (levels : Vec Level Global). levels.items) w.outer-is)
            (w.in-Some.ensures ∙ ap (λ (left : NamesLeft). names_left left ++ last ∷ []) (sym w.names-is))
            (sym shapes ∙ if_none _ w.in_ok-under.field-0 w.in_default-2.is w.in_ok-under.ensures.none))
        | in-Some+in_ok-push+in_ok-under+in_default-2+in-Borrowed-1 w ↦
            (let last = shown (w.in-Some.name, w.in-Some.shapes) in
            let shapes = w.as_slice.ensures ∙ ap shapes_behind w.deref.ensures in
            next_taken entries limit base before.prefix.items now.prefix.items before.outer.items now.outer.items (names_left before.names) (names_left now.names) last
            before.invariant.1 before.invariant.2 before.invariant.3
            (ap (λ (path : Vec (Bor Name) Global). path.items) w.prefix-is ∙ w.in_ok-push.ensures.items)
            (ap (λ (levels : Vec Level Global). levels.items) w.outer-is)
            (w.in-Some.ensures ∙ ap (λ (left : NamesLeft). names_left left ++ last ∷ []) (sym w.names-is))
            (sym shapes ∙ if_none _ w.in_ok-under.field-0 w.in_default-2.is w.in_ok-under.ensures.none))
        | in_default+in-Some-pop w ↦
            subst (λ (left : NamesLeft). IsNext entries limit base now.prefix.items before.outer.items now.outer.items (names_left before.names) (names_left left)) (sym w.names-is)
            (next_ended entries limit base now.prefix.items before.outer.items now.outer.items (names_left before.names) w.in-Some-pop.level
            (ap (λ (path : Vec (Bor Name) Global). path.items) w.prefix-is ∙ before.invariant.1) before.invariant.3
            (w.in-Some-pop.ensures.items ∙ ap (λ (levels : Vec Level Global). levels.items ++ w.in-Some-pop.level ∷ []) (sym w.outer-is))
            w.in_default.ensures.0)
      ]

pub loop-name-smaller : goal.loop-name-smaller
loop-name-smaller c =
    next-smaller c.args.self.now.by_index.items (limit_of_names c.args.fields.now.by_name.items) c.args.prefix.now.items c.match-take_last.prefix.items
    c.loop-name.outer.items c.match-take_last.outer.items (names_left c.loop-name.names) (names_left c.match-take_last.names) (next c) (entry_paths c.args.self.now.by_index.items)

pub loop-name-preserved : goal.loop-name-preserved
loop-name-preserved c =
    let base = c.args.prefix.now.items in
    let r = c.loop-name.resolution in
    let prefix = c.match-take_last.prefix in
    let levels = c.match-take_last.outer.items in (
      λ under stand.
          next-added c.args.self.now.by_index.items (limit_of_names c.args.fields.now.by_name.items) base prefix.items
          c.loop-name.outer.items levels (names_left c.loop-name.names) (names_left c.match-take_last.names) (next c)
          under r c.add_key_path.new.self (with_paths_behind c.args.resolution.now (names_of base) (paths_by_name under c.args.fields.now)) (c.loop-name.invariant.0 under stand)
          (c.in_ok-add_key_path.ensures.ok ∙ ap (λ (ns : List (Bor Name)). with_key_path r (names_of ns)) (c.in_ok-from_slice.ensures.items ∙ c.deref-in-loop-name.ensures.value)),
      c.pop-in-loop-name.ensures.rest ∙ popped (base ++ level_names levels) prefix.items (next c).name prefix.len (next c).prefix_is prefix.ok.0,
      (next c).opened,
      (next c).levels_open,
    )
