use Rattle.std.proofs.Common.{◌≡◌, ◌∙◌, sym, ap, subst, refl, ℕ, ◌<◌, List, [], ◌∷◌, ◌++◌, Some}
use Rattle.std.proofs.Common.{None, Option}
use Rattle.std.specs.Option.{option_to_list}
use Rattle.std.proofs.Common.{get_or, length, map, slice_get, arith, ◌≤◌}
use Rattle.std.proofs.lemmas.List.{append-nil, length-map}
use Rattle.std.proofs.lemmas.Option.{slice_get_within}
use Rattle.facet_solver_reader.specs.declared.count.Count.TheVariants.{One}
use Rattle.facet_solver_reader.specs.declared.read.steps.Frame.{Frame}
use Rattle.facet_solver_reader.specs.declared.read.steps.Step as code
use Rattle.facet_solver_reader.specs.declared.nodes.Nodes.{Nodes}
use Rattle.facet_solver_reader.specs.declared.part.ListId as code_list
use Rattle.facet_solver_reader.specs.declared.part.Part as code_part
use Rattle.facet_solver_reader.specs.declared.count.object.Object as read
use Rattle.facet_solver_reader.specs.declared.tables.Tables.{Tables}
use Rattle.facet_solver_shape.specs.Names.{Name}
use Rattle.facet_solver_reader.specs.FieldPlaces as spec
use Rattle.facet_solver_reader.specs.FieldPlaces.{Path}
use Rattle.facet_solver_reader.specs.Chosen.{IsPicked, IsPickedBranch}
use Rattle.facet_solver_reader.specs.Known.{Chooses, HasChoice}
use Rattle.facet_solver_reader.specs.Parts.{ListId, Selection, a_selection}
use Rattle.facet_solver_reader.specs.Planned as planned
use Rattle.facet_solver_reader.specs.Reading.{IsListCount, IsObject, IsPartCount}
use Rattle.facet_solver_reader.specs.SelectionNames.{PartHasBranchNames}
use Rattle.facet_solver_reader.specs.Tables.{AreTables, ListIsServed, rules_at}
use Rattle.facet_solver_reader.specs.Steps.{place_below}
use Rattle.facet_solver_reader.specs.UnderWay.{IsEntered, IsGoing, IsInnermost, IsSelected}
use Rattle.facet_solver_reader.specs.UnderWay.{with_inner}
use Rattle.facet_solver_reader.specs.Views.{catch_all_view, list_view, member_view, part_view}
use Rattle.facet_solver_reader.specs.Views.{parts_view, selection_view}
use Rattle.facet_solver_reader.proofs.CountingObjects.{seen_read}
use Rattle.facet_solver_reader.proofs.NamedParts.{part_named}
use Rattle.facet_solver_reader.proofs.Quantifiers.{all_at}
use Rattle.facet_solver_reader.proofs.ReadOnce.{err_not_one, not_one_then}
use Rattle.facet_solver_reader.proofs.StepsLeft.{behind_next}
use Rattle.facet_solver_reader.proofs.StepsOne.{below_last, going_absent, going_branch, going_end}
use Rattle.facet_solver_reader.proofs.StepsOne.{going_member, going_rest, next_served, part_one}
use Rattle.facet_solver_reader.proofs.StepsTaken.{part_before}
use Rattle.facet_solver_reader.proofs.read.steps.Way.go_on.Goals as goal

-- the part that is read in the innermost list
part_at : (f : Frame) (xs : List code_part.Part) (p q : code_part.Part)
    → xs ≡ f.list.now.parts.items → f.next < length xs → p ≡ get_or xs f.next p → p ≡ q
    → slice_get (parts_view f.list.now.parts.items) f.next ≡ Some (part_view q)
part_at f xs p q same within is seen =
    seen_read part_view xs (parts_view f.list.now.parts.items) f.next p (ap (map part_view) same)
    within is
    ∙ ap (λ r. Some (part_view r)) seen

-- what is left when the last of some lists, if there is one, is taken from them
popped : (t : Tables) (nodes : Nodes) (o : read.Object) (old new : List Frame)
    (last : Option Frame) (steps : List code.Step) → old ≡ new ++ option_to_list last
    → IsGoing t nodes o old steps → IsGoing t nodes o (with_inner new last) steps
popped t nodes o old new None steps e h =
    subst (λ (x : List Frame). IsGoing t nodes o x steps) (e ∙ append-nil new) h
popped t nodes o old new (Some f) steps e h =
    subst (λ (x : List Frame). IsGoing t nodes o x steps) e h

-- what goes on in lists that are equal
moved : (t : Tables) (nodes : Nodes) (o : read.Object) (fs gs : List Frame)
    (old new : List code.Step) → gs ≡ fs → new ≡ old → IsGoing t nodes o fs old
    → IsGoing t nodes o gs new
moved t nodes o fs gs old new frames steps h =
    subst (λ (x : List code.Step). IsGoing t nodes o gs x) (sym steps)
    (subst (λ (x : List Frame). IsGoing t nodes o x old) (sym frames) h)

-- the branch that is read at an index is the one that is picked
branch_at : (t : Tables) (nodes : Nodes) (o : read.Object) (s : Selection)
    (ids : List code_list.ListId) (k : ℕ) (id : code_list.ListId)
    (x : IsPickedBranch t nodes o s k) → map list_view ids ≡ s.branches → id ≡ get_or ids k id
    → (slice_get s.branches k ≡ Some (list_view id)) × (x.branch ≡ list_view id)
branch_at t nodes o s ids k id x same is =
    let inside = slice_get_within s.branches k x.branch x.branch_is in
    let at = seen_read list_view ids s.branches k id same
    (omega (arith, inside, ap length same, length-map ids list_view)) is in
    let both : Some x.branch ≡ Some (list_view id) = sym x.branch_is ∙ at in
    (at, cc)

-- a selection that is read by a branch, of which the list, if it tells anything, is under way
inner_going : (t : Tables) (nodes : Nodes) (o : read.Object) → AreTables t → IsObject t nodes o
    → (fs : List Frame) (f : Frame) (s : Selection) (old : List code.Step)
    → IsGoing t nodes o (fs ++ f ∷ []) old
    → slice_get (parts_view f.list.now.parts.items) f.next ≡ Some (a_selection s)
    → (k : ℕ) (x : IsPickedBranch t nodes o s k) (id : ListId) → x.branch ≡ id
    → (path : Path) → path ≡ spec.path_at t.shapes.now f.place (list_view f.list.now.id) f.next
    → (field : Name) → field ≡ spec.field_name t.shapes.now (list_view f.list.now.id) f.next
    → (inner : Option Frame) (new : List code.Step) → IsSelected path id old new
    → IsInnermost t id (place_below t.shapes.now path field id) inner
    → IsGoing t nodes o (with_inner (fs ++ behind_next f ∷ []) inner) new
inner_going t nodes o tables listed fs f s old g at k x id branch path path_is field field_is inner new selects is =
    let here = spec.path_at t.shapes.now f.place (list_view f.list.now.id) f.next in
    let name = spec.field_name t.shapes.now (list_view f.list.now.id) f.next in
    let outer : List Frame = fs ++ behind_next f ∷ [] in
    let place_is : place_below t.shapes.now path field id ≡ place_below t.shapes.now here name id =
    ap (λ (q : Path). place_below t.shapes.now q field id) path_is
    ∙ ap (λ (n : Name). place_below t.shapes.now here n id) field_is in
    let chosen : IsSelected here id old new =
    subst (λ (q : Path). IsSelected q id old new) path_is selects in
    let entered : IsEntered t id (place_below t.shapes.now here name id) outer
    (with_inner outer inner) =
    subst (λ (q : Path). IsEntered t id q outer (with_inner outer inner)) place_is (is outer) in
    going_branch t nodes o tables fs f old g listed s at k x (with_inner outer inner) new
    (subst (λ (i : ListId). IsSelected here i old new) (sym branch) chosen)
    (subst (λ (i : ListId). IsEntered t i (place_below t.shapes.now here name i) outer
    (with_inner outer inner)) (sym branch) entered)

pub returns-in_default-clause-under_way : goal.returns-in_default-clause-under_way
returns-in_default-clause-under_way c =
    let t = c.args.tables.now in
    let nodes = c.args.nodes.now in
    let o = c.args.object.now in
    let f = c.args.frame in
    let fs = c.args.self.now.frames.items in
    let old = c.args.self.now.steps.items in
    let g = c.requires.under_way in
    let tables = c.requires.sound.tables in
    let items = f.list.now.parts.items in
    let past : length c.deref.result.now ≤ f.next = c.in_default.ensures.lookup.3 in
    popped t nodes o fs c.pop.new.self.items c.pop.result old c.pop.ensures.items
    (going_end t nodes o tables fs f old g
    (omega (arith, past, length-map items part_view, ap length c.deref.ensures.value)))

pub returns-in_ok-push-in-Member-clause-under_way : goal.returns-in_ok-push-in-Member-clause-under_way
returns-in_ok-push-in-Member-clause-under_way c =
    let t = c.args.tables.now in
    let nodes = c.args.nodes.now in
    let o = c.args.object.now in
    let f = c.args.frame in
    let fs = c.args.self.now.frames.items in
    let old = c.args.self.now.steps.items in
    let g = c.requires.under_way in
    let tables = c.requires.sound.tables in
    let m = c.in-Member.member in
    let look = c.in-Some.ensures.lookup in
    let at = part_at f c.deref.result.now c.in-Some.part.now (code_part.TheVariants.Member m)
    c.deref.ensures.value look.3.0 look.1 c.in-Member.is in
    moved t nodes o (fs ++ behind_next f ∷ []) (fs ++ c.behind.result ∷ []) _ c.push.new.self.items
    (ap (λ (g : Frame). fs ++ g ∷ []) c.behind.ensures) c.in_ok-push-in-Member.ensures.items
    (going_member t nodes o tables fs f old g (member_view m) _ at
    (ap (λ path. planned.a_field path (member_view m)) c.in_ok-path-in-Member.ensures))

pub returns-in_ok-push-in-CatchAll-clause-under_way : goal.returns-in_ok-push-in-CatchAll-clause-under_way
returns-in_ok-push-in-CatchAll-clause-under_way c =
    let t = c.args.tables.now in
    let nodes = c.args.nodes.now in
    let o = c.args.object.now in
    let f = c.args.frame in
    let fs = c.args.self.now.frames.items in
    let old = c.args.self.now.steps.items in
    let g = c.requires.under_way in
    let tables = c.requires.sound.tables in
    let k = c.in-CatchAll.catch_all in
    let look = c.in-Some.ensures.lookup in
    let at = part_at f c.deref.result.now c.in-Some.part.now (code_part.TheVariants.CatchAll k)
    c.deref.ensures.value look.3.0 look.1 c.in-CatchAll.is in
    moved t nodes o (fs ++ behind_next f ∷ []) (fs ++ c.behind-in-CatchAll.result ∷ []) _
    c.push-in-CatchAll.new.self.items
    (ap (λ (g : Frame). fs ++ g ∷ []) c.behind-in-CatchAll.ensures)
    c.in_ok-push-in-CatchAll.ensures.items
    (going_rest t nodes o tables fs f old g (catch_all_view k) _ at refl)

pub choose-requires-clause-served : goal.choose-requires-clause-served
choose-requires-clause-served c =
    let t = c.args.tables.now in
    let nodes = c.args.nodes.now in
    let o = c.args.object.now in
    let f = c.args.frame in
    let fs = c.args.self.now.frames.items in
    let old = c.args.self.now.steps.items in
    let g = c.requires.under_way in
    let tables = c.requires.sound.tables in
    let s = c.in-Selection.selection in
    let look = c.in-Some.ensures.lookup in
    let at = part_at f c.deref.result.now c.in-Some.part.now (code_part.TheVariants.Selection s)
    c.deref.ensures.value look.3.0 look.1 c.in-Selection.is in
    next_served t nodes o tables fs f old g (a_selection (selection_view s)) at

pub choose-requires-clause-named : goal.choose-requires-clause-named
choose-requires-clause-named c =
    let t = c.args.tables.now in
    let f = c.args.frame in
    let tables = c.requires.sound.tables in
    let below = below_last t c.args.nodes.now c.args.object.now tables c.args.self.now.frames.items f
    c.args.self.now.steps.items c.requires.under_way in
    let look = c.in-Some.ensures.lookup in
    subst (PartHasBranchNames (rules_at t).lists) c.in-Selection.is
    (part_named t tables f.list.now (record { index = below.index; listed = below.listed })
    c.deref.result.now c.deref.ensures.value f.next c.in-Some.part.now look.3.0 look.1)

pub choose-requires-clause-before : goal.choose-requires-clause-before
choose-requires-clause-before c =
    let t = c.args.tables.now in
    let nodes = c.args.nodes.now in
    let o = c.args.object.now in
    let f = c.args.frame in
    let fs = c.args.self.now.frames.items in
    let old = c.args.self.now.steps.items in
    let g = c.requires.under_way in
    let tables = c.requires.sound.tables in
    let s = c.in-Selection.selection in
    let look = c.in-Some.ensures.lookup in
    let at = part_at f c.deref.result.now c.in-Some.part.now (code_part.TheVariants.Selection s)
    c.deref.ensures.value look.3.0 look.1 c.in-Selection.is in
    part_before t nodes o tables c.requires.object f.list.now (below_last t nodes o tables fs f old g)
    f.next (a_selection (selection_view s)) at

pub choose-requires-clause-part : goal.choose-requires-clause-part
choose-requires-clause-part c =
    let t = c.args.tables.now in
    let nodes = c.args.nodes.now in
    let o = c.args.object.now in
    let f = c.args.frame in
    let fs = c.args.self.now.frames.items in
    let old = c.args.self.now.steps.items in
    let g = c.requires.under_way in
    let tables = c.requires.sound.tables in
    let s = c.in-Selection.selection in
    let look = c.in-Some.ensures.lookup in
    let at = part_at f c.deref.result.now c.in-Some.part.now (code_part.TheVariants.Selection s)
    c.deref.ensures.value look.3.0 look.1 c.in-Selection.is in
    let below = below_last t nodes o tables fs f old g in
    record {
      list = list_view f.list.now.id;
      parts = parts_view f.list.now.parts.items;
      parts_are = (tables.lists below.index f.list.now below.listed).same;
      index = f.next;
      is_at = at;
    }

pub returns-in_err-k-in-Selection-clause-not_one : goal.returns-in_err-k-in-Selection-clause-not_one
returns-in_err-k-in-Selection-clause-not_one c =
    let t = c.args.tables.now in
    let nodes = c.args.nodes.now in
    let o = c.args.object.now in
    let f = c.args.frame in
    let fs = c.args.self.now.frames.items in
    let old = c.args.self.now.steps.items in
    let g = c.requires.under_way in
    let tables = c.requires.sound.tables in
    let s = c.in-Selection.selection in
    let look = c.in-Some.ensures.lookup in
    let at = part_at f c.deref.result.now c.in-Some.part.now (code_part.TheVariants.Selection s)
    c.deref.ensures.value look.3.0 look.1 c.in-Selection.is in
    err_not_one (IsListCount t nodes o o.list.now One) c.from_residual-in_err-k-in-Selection.result
    c.in_err-k-in-Selection.field-0.0 c.from_residual-in_err-k-in-Selection.ensures.0
    c.from_residual-in_err-k-in-Selection.ensures.1
    (not_one_then c.in_err-k-in-Selection.field-0.0
    (IsPartCount t nodes o (a_selection (selection_view s)) One)
    (IsListCount t nodes o o.list.now One)
    (λ one. part_one t nodes o tables fs f old g (a_selection (selection_view s)) at one)
    c.in_err-k-in-Selection.ensures.none)

pub returns-in_default-2-clause-under_way : goal.returns-in_default-2-clause-under_way
returns-in_default-2-clause-under_way c =
    let t = c.args.tables.now in
    let nodes = c.args.nodes.now in
    let o = c.args.object.now in
    let f = c.args.frame in
    let fs = c.args.self.now.frames.items in
    let old = c.args.self.now.steps.items in
    let g = c.requires.under_way in
    let tables = c.requires.sound.tables in
    let s = c.in-Selection.selection in
    let look = c.in-Some.ensures.lookup in
    let at = part_at f c.deref.result.now c.in-Some.part.now (code_part.TheVariants.Selection s)
    c.deref.ensures.value look.3.0 look.1 c.in-Selection.is in
    let picked = subst (IsPicked t nodes o (selection_view s)) c.in_default-2.is
    c.in_ok-k-in-Selection.ensures.chosen in
    let new = c.pass.new.self.steps.items in
    moved t nodes o (fs ++ behind_next f ∷ [])
    (c.pass.new.self.frames.items ++ c.behind-in_default-2.result ∷ []) new new
    (ap (λ (gs : List Frame). gs ++ c.behind-in_default-2.result ∷ [])
    c.in_ok-pass-in-Selection.ensures.frames
    ∙ ap (λ (g : Frame). fs ++ g ∷ []) c.behind-in_default-2.ensures)
    refl
    (going_absent t nodes o tables fs f old g (selection_view s) at new picked.0 picked.1
    c.in_ok-pass-in-Selection.ensures.steps)

pub index-requires : goal.index-requires
index-requires c =
    let s = c.in-Selection.selection in
    let x = subst (IsPicked c.args.tables.now c.args.nodes.now c.args.object.now (selection_view s))
    c.in-Some-2.is c.in_ok-k-in-Selection.ensures.chosen in
    let inside = slice_get_within (selection_view s).branches c.in-Some-2.k x.branch x.branch_is in
    omega (arith, inside, length-map s.branches.items list_view)

pub enter-requires-clause-served : goal.enter-requires-clause-served
enter-requires-clause-served c =
    let t = c.args.tables.now in
    let nodes = c.args.nodes.now in
    let o = c.args.object.now in
    let f = c.args.frame in
    let fs = c.args.self.now.frames.items in
    let old = c.args.self.now.steps.items in
    let g = c.requires.under_way in
    let tables = c.requires.sound.tables in
    let s = c.in-Selection.selection in
    let look = c.in-Some.ensures.lookup in
    let at = part_at f c.deref.result.now c.in-Some.part.now (code_part.TheVariants.Selection s)
    c.deref.ensures.value look.3.0 look.1 c.in-Selection.is in
    let x = subst (IsPicked t nodes o (selection_view s)) c.in-Some-2.is
    c.in_ok-k-in-Selection.ensures.chosen in
    let ids = s.branches.items in
    let k = c.in-Some-2.k in
    let branch = c.index.result.now in
    let id = list_view branch in
    let here = branch_at t nodes o (selection_view s) ids k branch x refl c.index.ensures in
    all_at (ListIsServed t) (map list_view ids) k id
    (next_served t nodes o tables fs f old g (a_selection (selection_view s)) at) here.0

pub enter-requires-clause-chosen : goal.enter-requires-clause-chosen
enter-requires-clause-chosen c =
    let t = c.args.tables.now in
    let nodes = c.args.nodes.now in
    let o = c.args.object.now in
    let f = c.args.frame in
    let fs = c.args.self.now.frames.items in
    let old = c.args.self.now.steps.items in
    let g = c.requires.under_way in
    let tables = c.requires.sound.tables in
    let s = c.in-Selection.selection in
    let look = c.in-Some.ensures.lookup in
    let at = part_at f c.deref.result.now c.in-Some.part.now (code_part.TheVariants.Selection s)
    c.deref.ensures.value look.3.0 look.1 c.in-Selection.is in
    let x = subst (IsPicked t nodes o (selection_view s)) c.in-Some-2.is
    c.in_ok-k-in-Selection.ensures.chosen in
    let ids = s.branches.items in
    let k = c.in-Some-2.k in
    let branch = c.index.result.now in
    let id = list_view branch in
    let here = branch_at t nodes o (selection_view s) ids k branch x refl c.index.ensures in
    subst (λ i. HasChoice (Chooses (rules_at t).lists i)) here.1 x.chosen

pub returns-in_ok-push-in-Some-3-clause-under_way : goal.returns-in_ok-push-in-Some-3-clause-under_way
returns-in_ok-push-in-Some-3-clause-under_way c =
    let t = c.args.tables.now in
    let nodes = c.args.nodes.now in
    let o = c.args.object.now in
    let f = c.args.frame in
    let fs = c.args.self.now.frames.items in
    let old = c.args.self.now.steps.items in
    let g = c.requires.under_way in
    let tables = c.requires.sound.tables in
    let s = c.in-Selection.selection in
    let look = c.in-Some.ensures.lookup in
    let at = part_at f c.deref.result.now c.in-Some.part.now (code_part.TheVariants.Selection s)
    c.deref.ensures.value look.3.0 look.1 c.in-Selection.is in
    let x = subst (IsPicked t nodes o (selection_view s)) c.in-Some-2.is
    c.in_ok-k-in-Selection.ensures.chosen in
    let ids = s.branches.items in
    let k = c.in-Some-2.k in
    let branch = c.index.result.now in
    let id = list_view branch in
    let here = branch_at t nodes o (selection_view s) ids k branch x refl c.index.ensures in
    let inner = c.in-Some-3.inner in
    let new = c.enter.new.self.steps.items in
    let place = place_below t.shapes.now c.in_ok-path-in-Selection.path
    c.field_name-name.result.now id in
    moved t nodes o ((fs ++ behind_next f ∷ []) ++ inner ∷ [])
    (c.push-in-Some-3.new.self.items ++ inner ∷ []) new new
    (ap (λ (gs : List Frame). gs ++ inner ∷ [])
    (c.in_ok-push-in-Some-3.ensures.items
    ∙ ap (λ (gs : List Frame). gs ++ c.behind-in-Some-3.result ∷ [])
    c.in_ok-inner-in-Selection.ensures.frames
    ∙ ap (λ (g : Frame). fs ++ g ∷ []) c.behind-in-Some-3.ensures))
    refl
    (inner_going t nodes o tables c.requires.object fs f (selection_view s) old g at k x id here.1
    c.in_ok-path-in-Selection.path c.in_ok-path-in-Selection.ensures
    c.field_name-name.result.now c.field_name-name.ensures (Some inner) new
    c.in_ok-inner-in-Selection.ensures.steps
    (subst (IsInnermost t id place) c.in-Some-3.is c.in_ok-inner-in-Selection.ensures.entered))

pub returns-in-None-clause-under_way : goal.returns-in-None-clause-under_way
returns-in-None-clause-under_way c =
    let t = c.args.tables.now in
    let nodes = c.args.nodes.now in
    let o = c.args.object.now in
    let f = c.args.frame in
    let fs = c.args.self.now.frames.items in
    let old = c.args.self.now.steps.items in
    let g = c.requires.under_way in
    let tables = c.requires.sound.tables in
    let s = c.in-Selection.selection in
    let look = c.in-Some.ensures.lookup in
    let at = part_at f c.deref.result.now c.in-Some.part.now (code_part.TheVariants.Selection s)
    c.deref.ensures.value look.3.0 look.1 c.in-Selection.is in
    let x = subst (IsPicked t nodes o (selection_view s)) c.in-Some-2.is
    c.in_ok-k-in-Selection.ensures.chosen in
    let ids = s.branches.items in
    let k = c.in-Some-2.k in
    let branch = c.index.result.now in
    let id = list_view branch in
    let here = branch_at t nodes o (selection_view s) ids k branch x refl c.index.ensures in
    let new = c.enter.new.self.steps.items in
    let place = place_below t.shapes.now c.in_ok-path-in-Selection.path
    c.field_name-name.result.now id in
    moved t nodes o (fs ++ behind_next f ∷ [])
    (c.enter.new.self.frames.items ++ c.behind-in-None.result ∷ []) new new
    (ap (λ (gs : List Frame). gs ++ c.behind-in-None.result ∷ [])
    c.in_ok-inner-in-Selection.ensures.frames
    ∙ ap (λ (g : Frame). fs ++ g ∷ []) c.behind-in-None.ensures)
    refl
    (inner_going t nodes o tables c.requires.object fs f (selection_view s) old g at k x id here.1
    c.in_ok-path-in-Selection.path c.in_ok-path-in-Selection.ensures
    c.field_name-name.result.now c.field_name-name.ensures None new
    c.in_ok-inner-in-Selection.ensures.steps
    (subst (IsInnermost t id place) c.in-None.is c.in_ok-inner-in-Selection.ensures.entered))
