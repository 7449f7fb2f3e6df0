-- Names that each choice of a list requires.
use Rattle.std.proofs.Common.{◌≡◌, ◌≢◌, inl, inr, sym, ap, subst, refl, ⊎_elim, ℕ, zero, suc}
use Rattle.std.proofs.Common.{List, [], ◌∷◌, ◌++◌, Option, Some, None, true, false, slice_get}
use Rattle.std.proofs.Common.{◌<◌, ◌∙◌, arith, not}
use Rattle.std.proofs.lemmas.Slice.Eq.{bytes_eq-Decides}
use Rattle.std.specs.Str.{bytes_eq}
use Rattle.std.proofs.Common.{◌≤◌, length, get_or}
use Rattle.std.proofs.lemmas.Option.{IfSome_then, slice_get_within}
use Rattle.std.specs.Borrow.{Bor}
use Rattle.std.specs.Prelude.{IfSome}
use Rattle.facet_solver_reader.specs.declared.tables.List.{List as ListEntry}
use Rattle.facet_solver_reader.specs.declared.tables.Tables.{Tables}
use Rattle.facet_solver_reader.specs.Reading.{IsListed, is_other_tag}
use Rattle.facet_solver_reader.specs.Tables.{AreTables, IsListOf, rules_at}
use Rattle.facet_solver_reader.specs.Views.{list_view, parts_view}
use Rattle.facet_solver_shape.specs.Names.{Name}
use Rattle.facet_solver_reader.specs.Choices.{Choice, ChoiceAt, Item, member_of, catch_all_of}
use Rattle.facet_solver_reader.specs.Choices.{presence_of, presence, done, next, lacking, having}
use Rattle.facet_solver_reader.specs.Choices.{without, choosing, taking}
use Rattle.facet_solver_reader.specs.Documents.{Member, Tree, text}
use Rattle.facet_solver_reader.specs.Known.{ChoosesAll, ChoosesAt}
use Rattle.facet_solver_reader.specs.Objects.{find}
use Rattle.facet_solver_reader.specs.Parts.{ListId, Lists, MemberPart, Part, Selection, a_member}
use Rattle.facet_solver_reader.specs.Parts.{a_selection, of_tag}
use Rattle.facet_solver_reader.specs.Rules.{Rules}
use Rattle.facet_solver_reader.specs.Blaming.{BeginsWith, PartLacks}
use Rattle.facet_solver_reader.specs.Why.{IsOfName, IsRequiredIn, IsTagOf, Lacks, Requires}
use Rattle.facet_solver_reader.proofs.Lists.{choices_of_list}
use Rattle.facet_solver_reader.proofs.Selections.{choice_at}

-- what the first items require, and what the others do, all do
required_front : (P : MemberPart → Type 0) (is js : List Item) → IsRequiredIn P is
    → IsRequiredIn P (is ++ js)
required_front P [] js h = absurd h
required_front P (member_of m r ∷ is) js h =
    ⊎_elim (λ (a : (m.required ≡ true) × P m). inl a)
    (λ (b : IsRequiredIn P is). inr (required_front P is js b)) h
required_front P (catch_all_of k t ∷ is) js h = required_front P is js h
required_front P (presence_of s ∷ is) js h = required_front P is js h

required_behind : (P : MemberPart → Type 0) (is js : List Item) → IsRequiredIn P js
    → IsRequiredIn P (is ++ js)
required_behind P [] js h = h
required_behind P (member_of m r ∷ is) js h = inr (required_behind P is js h)
required_behind P (catch_all_of k t ∷ is) js h = required_behind P is js h
required_behind P (presence_of s ∷ is) js h = required_behind P is js h

-- what each choice at a part requires, each choice of the parts does
required_by_part : (P : MemberPart → Type 0) (lists : Lists) (ps : List Part) (k : ℕ) (p : Part)
    → slice_get ps k ≡ Some p
    → ((a : ChoiceAt) (is : List Item) → ChoosesAt lists p a is → IsRequiredIn P is)
    → (c : Choice) (items : List Item) → ChoosesAll lists ps c items → IsRequiredIn P items
required_by_part P lists [] k p e f c items h =
    let l : k < 0 = slice_get_within [] k p e in absurd (omega arith)
required_by_part P lists (q ∷ ps) k p e f done items h = absurd h
required_by_part P lists (q ∷ ps) zero p e f (next a c) items h =
    let same : q ≡ p = cc in
    subst (IsRequiredIn P) (sym h.items_are)
    (required_front P h.first h.second
    (f a h.first (subst (λ r. ChoosesAt lists r a h.first) same h.chooses_first)))
required_by_part P lists (q ∷ ps) (suc k) p e f (next a c) items h =
    subst (IsRequiredIn P) (sym h.items_are)
    (required_behind P h.first h.second
    (required_by_part P lists ps k p e f c h.second h.chooses_second))

-- a name that an object lacks for a part of a list it lacks for the list
pub lacks_by_part : (rules : Rules) (members : List Member) (id : ListId) (ps : List Part) (k : ℕ)
    (p : Part) (x : Name) → rules.lists id ≡ Some ps → slice_get ps k ≡ Some p
    → PartLacks rules members p x → Lacks rules members id x
lacks_by_part rules members id ps k p x e at h =
    record {
      absent = h.absent;
      required = λ c items chooses.
          required_by_part (IsOfName x) rules.lists ps k p at h.required c items
          ((choices_of_list rules.lists id ps e c items).1 chooses);
    }

-- each choice at a required member requires it
member_required : (P : MemberPart → Type 0) (rules : Rules) (m : MemberPart) → m.required ≡ true
    → P m → (c : ChoiceAt) (items : List Item) → ChoosesAt rules.lists (a_member m) c items
    → IsRequiredIn P items
member_required P rules m is has lacking items h =
    subst (IsRequiredIn P) (sym h) (inl (is, has))
member_required P rules m is has (having r) items h =
    subst (IsRequiredIn P) (sym h) (inl (is, has))
member_required P rules m is has without items h = absurd h
member_required P rules m is has (choosing k c) items h = absurd h
member_required P rules m is has (taking t) items h = absurd h

-- a list requires the member that it begins with
pub first_required : (P : MemberPart → Type 0) (t : Tables) (id : ListId) (l : ListEntry)
    → AreTables t → IsListOf t id l → BeginsWith l P → Requires (rules_at t) id P
first_required P t id l tables of h c items chooses =
    let ps = parts_view l.parts.items in
    let same : (rules_at t).lists (list_view l.id) ≡ Some ps =
    (tables.lists of.index l of.listed).same in
    let at : (rules_at t).lists id ≡ Some ps =
    subst (λ i. (rules_at t).lists i ≡ Some ps) of.same same in
    required_by_part P (rules_at t).lists ps 0 (a_member h.member) h.first
    (member_required P (rules_at t) h.member h.required h.is) c items
    ((choices_of_list (rules_at t).lists id ps at c items).1 chooses)

-- the same of what is told of a list: a name, and the text of a tag
pub tag_required : (t : Tables) (id : ListId) (l : ListEntry) (tag : Option (Bor Name × Bor Name))
    → AreTables t → IsListOf t id l → IfSome tag (λ p. BeginsWith l (IsTagOf p.0.now p.1.now))
    → IfSome tag (λ p. Requires (rules_at t) id (IsTagOf p.0.now p.1.now))
tag_required t id l tag tables of h =
    IfSome_then tag h
    (λ (p : Bor Name × Bor Name) begins.
    first_required (IsTagOf p.0.now p.1.now) t id l tables of begins)

-- a value that is no text of a tag is not that text
pub other_tag : (x : Name) (v : Tree) → is_other_tag (of_tag x) v ≡ true → v ≢ text x
other_tag x v other e =
    let itself : is_other_tag (of_tag x) (text x) ≡ true =
    subst (λ w. is_other_tag (of_tag x) w ≡ true) e other in
    let same : bytes_eq x x ≡ true = (bytes_eq-Decides x x).1 refl in
    let wrong : not true ≡ true = sym (ap not same) ∙ itself in absurd (cc)

-- a required member that is not there
pub member_lacks : (rules : Rules) (members : List Member) (m : MemberPart) → m.required ≡ true
    → find members m.name ≡ None → PartLacks rules members (a_member m) m.name
member_lacks rules members m is e =
    record { absent = e; required = member_required (IsOfName m.name) rules m is refl }

-- what the one branch of a selection lacks that is always present
pub branch_lacks : (rules : Rules) (members : List Member) (s : Selection) (id : ListId) (x : Name)
    → s.optional ≡ false → s.branches ≡ id ∷ [] → Lacks rules members id x
    → PartLacks rules members (a_selection s) x
branch_lacks rules members s id x present one lacks =
    record { absent = lacks.absent; required = required }
  where
    only : (k : ℕ) (list : ListId) → slice_get (id ∷ []) k ≡ Some list → slice_get (id ∷ []) k ≡ Some id
    only zero list e = refl
    only (suc k) list e = let l : k < 0 = slice_get_within [] k list e in absurd (omega arith)

    required : (c : ChoiceAt) (items : List Item) → ChoosesAt rules.lists (a_selection s) c items
        → IsRequiredIn (IsOfName x) items
    required lacking items h = absurd h
    required (having r) items h = absurd h
    required (taking t) items h = absurd h
    required without items h = let p : s.optional ≡ true = h.0 in absurd (cc)
    required (choosing k c) items h =
        let first = subst (λ bs. slice_get bs k ≡ Some h.chooses.list) one h.chooses.branch_is in
        let at : slice_get s.branches k ≡ Some id =
        subst (λ bs. slice_get bs k ≡ Some id) (sym one) (only k h.chooses.list first) in
        subst (IsRequiredIn (IsOfName x)) (sym h.items_are)
        (required_behind (IsOfName x) (presence s) h.of_branch
        (lacks.required c h.of_branch (choice_at rules.lists s k id c h.of_branch at h.chooses)))

-- what is told of a part is so of its list
pub list_lacks : (t : Tables) (members : List Member) (l : ListEntry) (k : ℕ) (p : Part)
    (name : Option (Bor Name)) → AreTables t → IsListed t l
    → slice_get (parts_view l.parts.items) k ≡ Some p
    → IfSome name (λ x. PartLacks (rules_at t) members p x.now)
    → IfSome name (λ x. Lacks (rules_at t) members (list_view l.id) x.now)
list_lacks t members l k p name tables h at lacks =
    IfSome_then name lacks
    (λ (x : Bor Name) h2.
    lacks_by_part (rules_at t) members (list_view l.id) (parts_view l.parts.items) k p x.now
    (tables.lists h.index l h.listed).same at h2)

-- what is told of the one branch of a selection that is always present is so of the selection
pub selection_lacks : (rules : Rules) (members : List Member) (s : Selection) (id : ListId)
    (name : Option (Bor Name)) → s.optional ≡ false → s.branches ≡ id ∷ []
    → IfSome name (λ x. Lacks rules members id x.now)
    → IfSome name (λ x. PartLacks rules members (a_selection s) x.now)
selection_lacks rules members s id name present one lacks =
    IfSome_then name lacks
    (λ (x : Bor Name) h. branch_lacks rules members s id x.now present one h)

-- a list of one element
pub one_item : {A : Type 0} (xs : List A) (x : A) → 1 ≤ length xs → length xs < 2
    → x ≡ get_or xs 0 x → xs ≡ x ∷ []
one_item [] x some few is = absurd (omega arith)
one_item (y ∷ []) x some few is = ap (λ z. z ∷ []) (sym is)
one_item (y ∷ z ∷ ys) x some few is = absurd (omega arith)
