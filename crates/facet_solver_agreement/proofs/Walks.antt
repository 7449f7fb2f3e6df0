-- The walk of fields agrees with the choices of their parts.
use Rattle.std.proofs.Common.{◌≡◌, inl, inr, refl, sym, ap, ◌∙◌, ℕ, zero, suc, Bool, true, false}
use Rattle.std.proofs.Common.{List, [], ◌∷◌, ◌++◌, Option, Some, None, slice_get, arith}
use Rattle.std.proofs.Common.{string_bytes}
use Rattle.std.specs.Prelude.{⊤, All, IsTrue, if◌then◌else◌, option_and_then, option_map}
use Rattle.std.specs.Option.{option_map_or}
use Rattle.facet_solver_shape.specs.declared.role.Target.{Target}
use Rattle.facet_solver_shape.specs.declared.shape.Field.{Field}
use Rattle.facet_solver_shape.specs.declared.shape.Shape.{Shape}
use Rattle.facet_solver_shape.specs.declared.shape.Variant.{Variant}
use Rattle.facet_solver_shape.specs.Catalogues.{Catalogue, FieldsBelow, VariantsBelow, NamesEarlier}
use Rattle.facet_solver_shape.specs.Catalogues.{kind_at}
use Rattle.facet_solver_shape.specs.Names.{Name, effective_name}
use Rattle.facet_solver_shape.specs.Representation.{Repr, flattened, externally_tagged}
use Rattle.facet_solver_shape.specs.Representation.{internally_tagged, adjacently_tagged, is_walked}
use Rattle.facet_solver_shape.specs.Representation.{repr_of_shape}
use Rattle.facet_solver_shape.specs.Roles.{Role, regular, block, alternatives, catch_all, leaf}
use Rattle.facet_solver_shape.specs.Roles.{is_required, role_of}
use Rattle.facet_solver.specs.declared.build.format.Format.{Format}
use Rattle.facet_solver.specs.build.Build.{Build, build_with}
use Rattle.facet_solver.specs.build.Content.{content_of}
use Rattle.facet_solver.specs.build.Emissions.{Emission, emit_catch_all, emit_leaf, emit_plain}
use Rattle.facet_solver.specs.build.Emissions.{emit_regular, emit_selector_by, emit_variant}
use Rattle.facet_solver.specs.build.Emissions.{field_and_paths, leaf_field, regular_field}
use Rattle.facet_solver.specs.build.Emissions.{selection_of, selector_field}
use Rattle.facet_solver.specs.build.Place.{Path, choosing, field_path, variant_path}
use Rattle.facet_solver.specs.build.Walk.{Walking, put_before, emit, choose, walk_content_step}
use Rattle.facet_solver.specs.build.Walk.{walk_fields, walk_fields_step, walk_role}
use Rattle.facet_solver.specs.build.Walk.{walk_variant_step}
use Rattle.facet_solver.proofs.Roles.{FieldsBelow-mono, RoleBelow, VariantsBelow-mono}
use Rattle.facet_solver.proofs.Roles.{content_of-below, role_of-below}
use Rattle.facet_solver.proofs.Walk.{VariantsBelow-get}
use Rattle.facet_solver.proofs.WalkSteps.{walk-is_step}
use Rattle.facet_solver_reader.specs.Known.{ChoosesAll}
use Rattle.facet_solver_reader.specs.Parts as parts
use Rattle.facet_solver_reader.specs.Parts.{Lists, MemberPart, Part, of_branch, of_content}
use Rattle.facet_solver_reader.specs.Parts.{of_shape}
use Rattle.facet_solver_reader.specs.Parts.{of_struct, of_tag}
use Rattle.facet_solver_reader.specs.Types.{branches_from, catch_all_of_kind, content_member}
use Rattle.facet_solver_reader.specs.Types.{has_fields, one_of, part_by_role, part_of, parts_of}
use Rattle.facet_solver_reader.specs.Types.{parts_of_branch, parts_of_content, parts_of_fields}
use Rattle.facet_solver_reader.specs.Types.{repr_at, tag_member, variant_at, variants_at}
use Rattle.facet_solver_reader.proofs.Quantifiers.{all_at, any_at}
use Rattle.facet_solver_agreement.specs.Alike.{flattens_named, has_named_content}
use Rattle.facet_solver_agreement.specs.Alike.{have_named_content}
use Rattle.facet_solver_agreement.specs.Alike.{is_adjacent}
use Rattle.facet_solver_agreement.specs.Asked.{asked_by_member, asked_by_walk}
use Rattle.facet_solver_agreement.specs.Indices.{indices_of_parts}
use Rattle.facet_solver_agreement.specs.Met.{AreMet, AreOfContent, BringsIn}
use Rattle.facet_solver_agreement.proofs.Agreeing.{AgreeAll, AgreeAt, AgreeList, agree_before}
use Rattle.facet_solver_agreement.proofs.Agreeing.{agree_behind, agree_both, agree_branches}
use Rattle.facet_solver_agreement.proofs.Agreeing.{agree_catch_all, agree_list, agree_member}
use Rattle.facet_solver_agreement.proofs.Agreeing.{agree_none, agree_one, agree_same}
use Rattle.facet_solver_agreement.proofs.Agreeing.{agree_selection, asked_if}
use Rattle.facet_solver_agreement.proofs.Contents.{AreParts, Stands, content_parts, stands}
use Rattle.facet_solver_agreement.proofs.Listed.{all_pass}

-- what is left out of what choices ask: no shape's value and no tag, and no content but that of
-- adjacently tagged enums
pub record LeavesOut (shapes : Catalogue) (left_out : parts.Target → Bool) : Type 0 where
  pub no_shape : (id : ℕ) → left_out (of_shape id) ≡ false
  pub no_tag : (name : Name) → left_out (of_tag name) ≡ false
  pub no_other : (id k : ℕ) → is_adjacent (repr_at shapes id) ≡ false
      → left_out (of_content id k) ≡ false

-- the contents of an enum of a representation are left out, if it is adjacently tagged
abbrev pub AreLeftOut : (ℕ → Bool) → Repr → Type 0
AreLeftOut left_out (adjacently_tagged tag content) = (k : ℕ) → left_out k ≡ true
AreLeftOut left_out _ = ⊤

-- so are those of the enum that a field of a role flattens
abbrev pub FlattensLeftOut : (parts.Target → Bool) → Role → Type 0
FlattensLeftOut left_out (alternatives target s vs) =
    AreLeftOut (λ k. left_out (of_content target.shape k)) (repr_of_shape s)
FlattensLeftOut left_out _ = ⊤

module _ (left_out : parts.Target → Bool) (shapes : Catalogue) (leaves : LeavesOut shapes left_out)
    (format : Format) (checked : NamesEarlier shapes) (from : List Field)
    (all_named : (fs : List Field) → AreMet shapes from fs
    → All (λ f. IsTrue (flattens_named shapes (role_of shapes f))) fs)
    (all_left_out : (fs : List Field) → AreMet shapes from fs
    → All (λ f. FlattensLeftOut left_out (role_of shapes f)) fs)
  where
    abbrev build : Build
    build = build_with shapes None format

    abbrev lists : Lists
    lists = parts_of shapes

    -- ---- fields that the walk meets
    -- what is known of the role of a field that the walk meets
    record IsFine (r : Role) : Type 0 where
      named : IsTrue (flattens_named shapes r)
      apart : FlattensLeftOut left_out r
      deeper : (gs : List Field) → BringsIn shapes gs r → AreMet shapes from gs

    AllFine : List Field → Type 0
    AllFine [] = ⊤
    AllFine (f ∷ fs) = IsFine (role_of shapes f) × AllFine fs

    fine : (fs : List Field) → AreMet shapes from fs → AllFine fs
    unfolding AllFine
    fine fs met = go fs each
      where
        each : (k : ℕ) (f : Field) → slice_get fs k ≡ Some f → IsFine (role_of shapes f)
        each k f at = record {
          named =
              all_at (λ g. IsTrue (flattens_named shapes (role_of shapes g))) fs k f
              (all_named fs met) at;
          apart =
              all_at (λ g. FlattensLeftOut left_out (role_of shapes g)) fs k f
              (all_left_out fs met) at;
          deeper = λ gs brings.
              let one = any_at (λ g. BringsIn shapes gs (role_of shapes g)) fs k f at brings in
              (suc met.0, (fs, met.1, one));
        }

        go : (gs : List Field)
            → ((k : ℕ) (f : Field) → slice_get gs k ≡ Some f → IsFine (role_of shapes f))
            → AllFine gs
        go [] each = tt
        go (g ∷ gs) each = (each zero g refl, go gs (λ k f at. each (suc k) f at))

    -- ---- one part
    -- a member that is not left out
    member_agrees : (m : MemberPart) (es : List Emission) → left_out m.target ≡ false
        → asked_by_walk es ≡ asked_by_member m ∷ []
        → AgreeAt left_out lists (emit es) (parts.a_member m)
    member_agrees m es stays same =
        agree_member left_out lists m es (same ∙ ap (λ b. asked_if left_out lists b m) (sym stays))

    -- a member that is
    apart_agrees : (m : MemberPart) → left_out m.target ≡ true
        → AgreeAt left_out lists (emit []) (parts.a_member m)
    apart_agrees m out =
        agree_member left_out lists m [] (ap (λ b. asked_if left_out lists b m) (sym out))

    -- the walks of fields that refer to shapes below a limit agree with the choices of their parts
    AgreeBelow : ℕ → Type 0
    AgreeBelow n = (fs : List Field) → FieldsBelow n fs → AreMet shapes from fs → (place : Path)
        → AgreeAll left_out lists (λ ns. walk_fields build fs place ns) (parts_of_fields shapes fs)

    module _ (n : ℕ) (below : AgreeBelow n) where
      -- the walk of the content of a variant, which stands among other members
      abbrev walk_inside : Variant → Path → Walking
      walk_inside v place ns = walk_content_step (walk_fields build) shapes v place ns

      -- it agrees with the choices of its parts
      record ContentAgrees (v : Variant) (place : Path) : Type 0 where
        parts : List Part
        parts_are : parts_of_content shapes v ≡ Some parts
        agrees : AgreeAll left_out lists (walk_inside v place) parts

      content_agrees : (v : Variant) (place : Path) → IsTrue (has_named_content shapes v)
          → FieldsBelow n (content_of shapes v).fields
          → AreMet shapes from (content_of shapes v).fields
          → ContentAgrees v place
      unfolding AgreeBelow
      content_agrees v place has_named low met = go (content_parts shapes v has_named)
        where
          inside : AgreeAll left_out lists (walk_inside v place)
              (parts_of_fields shapes (content_of shapes v).fields)
          inside =
              below (content_of shapes v).fields low met (place ++ (content_of shapes v).path)

          go : AreParts shapes (parts_of_content shapes v) (content_of shapes v).fields
              → ContentAgrees v place
          go (inl e) = record {
            parts = parts_of_fields shapes (content_of shapes v).fields;
            parts_are = e;
            agrees = inside;
          }
          go (inr b) = record {
            parts = one_of (of_struct b.0 ∷ []) ∷ [];
            parts_are = b.1;
            agrees =
                agree_behind left_out lists b.0 (walk_inside v place)
                (agree_list left_out lists (of_struct b.0)
                (parts_of_fields shapes (content_of shapes v).fields) (walk_inside v place) b.2
                inside);
          }

      -- a chosen variant of a flattened enum
      module _ (f : Field) (place : Path) (target : Target) (s : Shape) (vs : List Variant)
          (at_shape : slice_get shapes target.shape ≡ Some s)
          (are : variants_at shapes target.shape ≡ vs) (low : VariantsBelow n vs)
          (is_fine : IsFine (alternatives target s vs)) (k : ℕ) (v : Variant)
          (at : slice_get vs k ≡ Some v)
        where
          -- where its content stands
          abbrev behind : Path
          behind = variant_path place (choosing f target s v)

          -- what is emitted before it, by a representation
          abbrev announced : Repr → List Emission
          announced repr =
              selection_of s v (field_path place f)
              ∷ emit_selector_by repr build (choosing f target s v) place

          -- the walk of it, by a representation
          walk_by : Repr → Walking
          walk_by repr ns =
              put_before (announced repr)
              (if is_walked repr then walk_inside v behind ns else emit [] ns)

          -- its parts, by a representation
          abbrev parts_by : Repr → Option Variant → Option (List Part)
          parts_by repr o = option_and_then (parts_of_branch shapes target.shape k repr) o

          branch_is : parts_of shapes (of_branch target.shape k)
              ≡ parts_by (repr_of_shape s) (Some v)
          branch_is =
              ap
              (λ (o : Option Shape).
              parts_by (option_map_or repr_of_shape o flattened) (variant_at shapes target.shape k))
              at_shape
              ∙ ap (λ (ws : List Variant). parts_by (repr_of_shape s) (slice_get ws k)) are
              ∙ ap (parts_by (repr_of_shape s)) at

          repr_is : repr_at shapes target.shape ≡ repr_of_shape s
          repr_is = ap (λ (o : Option Shape). option_map_or repr_of_shape o flattened) at_shape

          content : IsTrue (is_walked (repr_of_shape s)) → IsTrue (has_named_content shapes v)
              → ContentAgrees v behind
          content walked has_named =
              content_agrees v behind has_named
              (content_of-below shapes checked n v (VariantsBelow-get n vs k v at low))
              (is_fine.deeper (content_of shapes v).fields
              (walked, any_at (AreOfContent shapes (content_of shapes v).fields) vs k v at refl))

          -- the member that tells the variant
          tag_agrees : (tag : Name) (es : List Emission)
              → asked_by_walk es ≡ record { name = tag; required = true } ∷ []
              → AgreeAt left_out lists (emit es) (tag_member tag v)
          tag_agrees tag es same =
              let m : MemberPart =
              record { name = tag; required = true; target = of_tag (string_bytes v.name) } in
              member_agrees m es (leaves.no_tag (string_bytes v.name)) same

          by_repr : (repr : Repr) → repr_of_shape s ≡ repr
              → IsTrue (have_named_content shapes repr vs)
              → AreLeftOut (λ k. left_out (of_content target.shape k)) repr
              → parts_of shapes (of_branch target.shape k) ≡ parts_by repr (Some v)
              → AgreeList left_out lists (walk_by repr) (of_branch target.shape k)
          unfolding walk_by emit_selector_by field_and_paths selector_field
          by_repr flattened is has_named out e =
              let named = all_pass (has_named_content shapes) vs k v has_named at in
              let c = content (ap is_walked is) named in
              agree_list left_out lists (of_branch target.shape k) c.parts (walk_by flattened)
              (e ∙ c.parts_are)
              (agree_before left_out (announced flattened) (walk_inside v behind)
              (ChoosesAll lists c.parts) (λ d. indices_of_parts lists d c.parts) refl c.agrees)
          by_repr externally_tagged is has_named out e =
              let m : MemberPart = record {
                name = string_bytes v.name;
                required = true;
                target = of_content target.shape k;
              } in
              let stays : left_out (of_content target.shape k) ≡ false =
              leaves.no_other target.shape k (ap is_adjacent (repr_is ∙ is)) in
              agree_list left_out lists (of_branch target.shape k)
              (content_member (string_bytes v.name) true target.shape k ∷ [])
              (walk_by externally_tagged) e
              (agree_both left_out lists (content_member (string_bytes v.name) true target.shape k)
              [] (emit (announced externally_tagged)) (emit [])
              (member_agrees m (announced externally_tagged) stays refl)
              (agree_none left_out lists))
          by_repr (internally_tagged tag) is has_named out e =
              let named = all_pass (has_named_content shapes) vs k v has_named at in
              let c = content (ap is_walked is) named in
              agree_list left_out lists (of_branch target.shape k) (tag_member tag v ∷ c.parts)
              (walk_by (internally_tagged tag))
              (e ∙ ap (option_map (λ ps. tag_member tag v ∷ ps)) c.parts_are)
              (agree_both left_out lists (tag_member tag v) c.parts
              (emit (announced (internally_tagged tag))) (walk_inside v behind)
              (tag_agrees tag (announced (internally_tagged tag)) refl) c.agrees)
          by_repr (adjacently_tagged tag name) is has_named out e =
              let has : Bool = has_fields v.fields.items in
              let m : MemberPart =
              record { name = name; required = has; target = of_content target.shape k } in
              let p : Part = content_member name has target.shape k in
              agree_list left_out lists (of_branch target.shape k) (tag_member tag v ∷ p ∷ [])
              (walk_by (adjacently_tagged tag name)) e
              (agree_both left_out lists (tag_member tag v) (p ∷ [])
              (emit (announced (adjacently_tagged tag name))) (emit [])
              (tag_agrees tag (announced (adjacently_tagged tag name)) refl)
              (agree_both left_out lists p [] (emit []) (emit []) (apart_agrees m (out k))
              (agree_none left_out lists)))

          variant_agrees : AgreeList left_out lists
              (λ ns. walk_variant_step (walk_fields build) build (choosing f target s v) place ns)
              (of_branch target.shape k)
          unfolding walk_by emit_variant
          variant_agrees = by_repr (repr_of_shape s) refl is_fine.named is_fine.apart branch_is

      -- the member that a field is
      abbrev member_of : Field → MemberPart
      member_of f =
          record {
            name = effective_name f;
            required = is_required shapes f;
            target = of_shape f.shape;
          }

      -- a field of a role
      role_agrees : (f : Field) (place : Path) (r : Role) → Stands shapes r → RoleBelow n r
          → IsFine r
          → AgreeAt left_out lists (λ ns. walk_role (walk_fields build) build f place r ns)
          (part_by_role shapes f r)
      unfolding AgreeBelow emit_plain emit_regular emit_catch_all emit_leaf regular_field leaf_field
          field_and_paths
      role_agrees f place regular h low is_fine =
          member_agrees (member_of f) (emit_plain build f place regular)
          (leaves.no_shape f.shape) refl
      role_agrees f place (block target fs) h low is_fine =
          let walk : Walking = λ ns. walk_fields build fs (field_path place f) ns in
          agree_selection left_out lists (of_struct target.shape ∷ []) walk target.optional
          (agree_one left_out lists target.optional target.shape walk
          (agree_list left_out lists (of_struct target.shape) (parts_of_fields shapes fs) walk h
          (below fs low (is_fine.deeper fs refl) (field_path place f))))
      role_agrees f place (alternatives target s vs) h low is_fine =
          let go : Variant → Walking =
          λ v ns. walk_variant_step (walk_fields build) build (choosing f target s v) place ns in
          agree_selection left_out lists (branches_from target.shape 0 vs) (λ ns. choose vs ns go)
          target.optional
          (agree_branches left_out lists target.optional vs target.shape go
          (λ k v at. variant_agrees f place target s vs h.0 h.1 low is_fine k v at))
      role_agrees f place (catch_all target) h low is_fine =
          agree_catch_all left_out lists (catch_all_of_kind (kind_at shapes target.shape))
          (emit_plain build f place (catch_all target)) refl
      role_agrees f place (leaf target) h low is_fine =
          member_agrees (member_of f) (emit_plain build f place (leaf target))
          (leaves.no_shape f.shape) refl

      -- ---- fields, one after another
      fields_agree : (fs : List Field) → FieldsBelow (suc n) fs → AllFine fs → (place : Path)
          → AgreeAll left_out lists
          (λ ns. walk_fields_step (walk_fields build) build fs place ns) (parts_of_fields shapes fs)
      unfolding walk_fields_step AllFine
      fields_agree [] low all place = agree_none left_out lists
      fields_agree (f ∷ fs) low all place =
          agree_both left_out lists (part_of shapes f) (parts_of_fields shapes fs)
          (λ ns. walk_role (walk_fields build) build f place (role_of shapes f) ns)
          (λ rest. walk_fields_step (walk_fields build) build fs place rest)
          (role_agrees f place (role_of shapes f) (stands shapes f)
          (role_low (role_of shapes f) (role_of-below shapes checked f)) all.0)
          (fields_agree fs low.1 all.1 place)
        where
          role_low : (r : Role) → RoleBelow f.shape r → RoleBelow n r
          role_low regular h = tt
          role_low (block target gs) h = FieldsBelow-mono f.shape n gs (omega (arith, low.0)) h
          role_low (alternatives target s vs) h =
              VariantsBelow-mono f.shape n vs (omega (arith, low.0)) h
          role_low (catch_all target) h = tt
          role_low (leaf target) h = tt

    agree_below : (n : ℕ) → AgreeBelow n
    unfolding AgreeBelow walk_fields_step
    agree_below zero [] low met place =
        agree_same left_out (emit []) (λ ns. walk_fields build [] place ns) (ChoosesAll lists [])
        (λ c. indices_of_parts lists c []) (λ ns. sym (walk-is_step build checked [] place ns))
        (agree_none left_out lists)
    agree_below zero (f ∷ fs) low met place = absurd (omega (arith, low.0))
    agree_below (suc n) fs low met place =
        agree_same left_out (λ ns. walk_fields_step (walk_fields build) build fs place ns)
        (λ ns. walk_fields build fs place ns) (ChoosesAll lists (parts_of_fields shapes fs))
        (λ c. indices_of_parts lists c (parts_of_fields shapes fs))
        (λ ns. sym (walk-is_step build checked fs place ns))
        (fields_agree n (agree_below n) fs low (fine fs met) place)

    -- the walk of fields agrees with the choices of their parts
    pub walk_agrees : (n : ℕ) (fs : List Field) → FieldsBelow n fs → AreMet shapes from fs
        → (place : Path)
        → AgreeAll left_out lists (λ ns. walk_fields build fs place ns) (parts_of_fields shapes fs)
    unfolding AgreeBelow
    walk_agrees n fs low met place = agree_below n fs low met place
