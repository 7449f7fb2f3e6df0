-- Of a solver that is told the names of an object the viable resolutions are those of the choices
-- that fit the object by its names.
use Rattle.std.proofs.Common.{◌≡◌, refl, sym, ap, ◌∙◌, subst, ℕ, true, false, List, [], Some}
use Rattle.std.proofs.Common.{None, Contains, append-nil, slice_get, length}
use Rattle.std.specs.Prelude.{Any}
use Rattle.std.specs.List.{list_any}
use Rattle.std.proofs.lemmas.Option.{same_Some, slice_get-get_or}
use Rattle.std.proofs.lemmas.Slice.Eq.{bytes_eq-Decides}
use Rattle.facet_solver_shape.specs.Catalogues.{Catalogue, IsChecked}
use Rattle.facet_solver_shape.specs.Keys.{Key, flat_key}
use Rattle.facet_solver_shape.specs.Names.{Name, name_eq}
use Rattle.facet_solver_shape.specs.Resolved.{Resolved}
use Rattle.facet_solver.specs.declared.build.format.Format.TheVariants.{Flat}
use Rattle.facet_solver.specs.build.Build.{Build}
use Rattle.facet_solver.specs.build.Choice.{IsResolution, resolution_from}
use Rattle.facet_solver.specs.build.Walk.{Walking, walk_root}
use Rattle.facet_solver.specs.schema.Schema.{IsBuilt, IsOwnBuild, SchemaView, flat_build}
use Rattle.facet_solver.specs.set.IndexSet.{upto}
use Rattle.facet_solver.specs.Resolutions.{has_key, is_known, passes}
use Rattle.facet_solver.specs.solver.Report.{is_viable}
use Rattle.facet_solver.specs.solver.State.{State, new_solver}
use Rattle.facet_solver.specs.solver.Told.{ChoiceHasKey, HasAllKnown, has_keys, indices_with}
use Rattle.facet_solver.specs.solver.Told.{known_keys, see_keys}
use Rattle.facet_solver.proofs.Choice.{no_choice-duplicates, resolution-one}
use Rattle.facet_solver.proofs.Told.{at_index, choice_has_all, known_left, one_viable, same_schema}
use Rattle.facet_solver.proofs.Told.{viable_told}
use Rattle.facet_solver_reader.specs.Choices.{Choice, Choosing, Item}
use Rattle.facet_solver_reader.specs.Documents.{Member}
use Rattle.facet_solver_reader.specs.Known.{Chooses, HasKey, IsKnown, named}
use Rattle.facet_solver_reader.specs.Objects.{HasNamed}
use Rattle.facet_solver_reader.specs.Parts.{of_struct}
use Rattle.facet_solver_reader.specs.Types.{parts_of}
use Rattle.facet_solver_agreement.specs.Alike.{IsKeptAlike}
use Rattle.facet_solver_agreement.specs.Asked.{IsRequiredOf, asked_by_items, asked_by_walk}
use Rattle.facet_solver_agreement.specs.Fits.{FitsByNames, IsFitting, SomeFits}
use Rattle.facet_solver_agreement.specs.Indices.{indices_of}
use Rattle.facet_solver_agreement.specs.Kept.{IsViableAfter, KeepsChoice, TellNames}
use Rattle.facet_solver_agreement.proofs.Agreeing.{AgreeList, IsChosen, IsWalked}
use Rattle.facet_solver_agreement.proofs.Keys.{key_is_named, key_passes, named_by_key, same_name}
use Rattle.facet_solver_agreement.proofs.Listed.{first_at, in_filtered, known_has, passed_at}
use Rattle.facet_solver_agreement.proofs.Listed.{second_at, some_key}
use Rattle.facet_solver_agreement.proofs.Named.{IsNameOf, asked_by_key, asked_named, has_names_of}
use Rattle.facet_solver_agreement.proofs.Named.{key_is_name, key_of_asked, name_asked}
use Rattle.facet_solver_agreement.proofs.Named.{names_of_viable, viable_by_names}
use Rattle.facet_solver_agreement.proofs.Root.{whole_root_agrees}

module _ (shapes : Catalogue) (root : ℕ) (schema : SchemaView) (checked : IsChecked shapes)
    (alike : IsKeptAlike shapes root) (built : IsBuilt (flat_build shapes None) root schema)
  where
    -- the schema is that of its own root
    own : IsOwnBuild schema
    own =
        subst (λ (n : ℕ). IsBuilt schema.build n schema) (sym built.has_root)
        (subst (λ (b : Build). IsBuilt b root schema) (sym built.made_by) built)

    is_flat : schema.build.format ≡ Flat
    is_flat = ap (λ (b : Build). b.format) built.made_by

    -- what holds of the shapes and the root holds of those of the schema
    of_schema : (P : Catalogue → ℕ → Type 0) → P shapes root
        → P schema.build.catalogue schema.root
    of_schema P h =
        subst (λ (b : Build). P b.catalogue schema.root) (sym built.made_by)
        (subst (λ (n : ℕ). P shapes n) (sym built.has_root) h)

    abbrev ChoosesRoot : Choosing Choice
    ChoosesRoot = Chooses (parts_of shapes) (of_struct root)

    abbrev walk : Walking
    walk ns = walk_root schema.build schema.root ns

    abbrev Resolves : List ℕ → Resolved → Type 0
    Resolves choice r = IsResolution schema.build schema.root choice r

    -- the walk of its root agrees with the choices of the reader
    agrees : AgreeList (λ target. false) (parts_of shapes) (λ ns. walk ns) (of_struct root)
    agrees =
        subst
        (λ (n : ℕ).
        AgreeList (λ target. false) (parts_of shapes) (λ ns. walk_root schema.build n ns)
        (of_struct root))
        (sym built.has_root)
        (subst
        (λ (b : Build).
        AgreeList (λ target. false) (parts_of shapes) (λ ns. walk_root b root ns)
        (of_struct root))
        (sym built.made_by)
        (whole_root_agrees shapes root Flat checked alike.taken alike.no_adjacent))

    -- ---- a choice of the schema, and the reader's choice that it is
    module _ (choice : List ℕ) (r : Resolved) (is : Resolves choice r) where
      -- a name of its resolution is known to the reader
      pub known_name : (x : Name) → has_key (flat_key x) r ≡ true → IsKnown ChoosesRoot (named x)
      known_name x has =
          let c = agrees.chosen choice is.emissions [] is.emitted in
          let is_name = key_is_name schema.build schema.root is_flat choice r is x in
          let asked =
          name_asked schema.build schema.root is_flat choice r is x (sym is_name ∙ has) in
          record {
            choice = c.choice;
            items = c.items;
            chooses = c.chooses;
            has = key_of_asked c.items x (subst (Any (IsNameOf x)) (sym c.same) asked);
          }

      -- a key of items that ask the same is one of its resolution
      own_key : (items : List Item) → asked_by_walk is.emissions ≡ asked_by_items items → (x : Name)
          → HasKey items (named x) → has_key (flat_key x) r ≡ true
      own_key items same x has =
          key_is_name schema.build schema.root is_flat choice r is x
          ∙ asked_named schema.build schema.root is_flat choice r is x
          (subst (Any (IsNameOf x)) (sym same) (asked_by_key items x has))

      -- and the other way round
      key_own : (items : List Item) → asked_by_walk is.emissions ≡ asked_by_items items → (x : Name)
          → has_key (flat_key x) r ≡ true → HasKey items (named x)
      key_own items same x has =
          let is_name = key_is_name schema.build schema.root is_flat choice r is x in
          key_of_asked items x
          (subst (Any (IsNameOf x)) same
          (name_asked schema.build schema.root is_flat choice r is x (sym is_name ∙ has)))

    -- ---- a choice of the reader, and its resolution
    module _ (c : Choice) (items : List Item) (h : ChoosesRoot c items) where
      abbrev choice_of : List ℕ
      choice_of = indices_of shapes root c

      walked : IsWalked (λ target. false) (λ ns. walk ns) choice_of items
      walked = agrees.walked c items h

      emitted : walk choice_of ≡ Some (walked.emissions, [])
      emitted = ap (λ ns. walk ns) (sym (append-nil choice_of)) ∙ walked.walks []

      abbrev resolved : Resolved
      resolved = resolution_from walked.emissions

      abbrev resolves : Resolves choice_of resolved
      resolves = record {
        emissions = walked.emissions;
        emitted = emitted;
        put_together = refl;
        no_duplicates =
            no_choice-duplicates schema.build schema.root schema.resolutions own.enumerates
            choice_of walked.emissions emitted;
      }

      listed : Contains own.enumerates.choices choice_of
      listed = own.enumerates.listed.complete choice_of (walked.emissions, emitted)

      at_choice : slice_get own.enumerates.choices listed.0 ≡ Some choice_of
      at_choice =
          slice_get-get_or own.enumerates.choices listed.0 choice_of listed.1 ∙ ap Some listed.2

      -- its resolution is listed
      at_resolved : (r : Resolved) × (slice_get schema.resolutions listed.0 ≡ Some r)
          × (r ≡ resolved)
      at_resolved =
          let at =
          second_at Resolves own.enumerates.choices schema.resolutions listed.0 choice_of
          own.enumerates.resolved at_choice in
          let one = resolution-one schema.build schema.root choice_of at.0 resolved at.2 resolves in
          (at.0, at.1, one)

      -- a name of its items is one that some resolution has
      has_some : (x : Name) → HasKey items (named x)
          → is_known schema.resolutions (flat_key x) ≡ true
      has_some x has =
          at_index (has_key (flat_key x)) schema.resolutions listed.0 at_resolved.0 at_resolved.1
          (ap (has_key (flat_key x)) at_resolved.2
          ∙ own_key choice_of resolved resolves items walked.same x has)

      -- ---- where it fits an object whose names are told
      module _ (ms : List Member) (fits : FitsByNames shapes root ms items) (keys : List Key)
          (told : TellNames keys ms)
        where
          -- a told key that is known is one of the resolution's
          has_known : (key : Key) → Contains keys key → (other : List ℕ)
              → ChoiceHasKey schema.build schema.root other key → has_key key resolved ≡ true
          has_known key among other k =
              let at = key_is_named ms key (told.in_others key among) in
              let x = key.name in
              let has : has_key (flat_key x) k.resolution ≡ true =
              ap (λ (y : Key). has_key y k.resolution) (sym at.0) ∙ k.has in
              let known : IsKnown ChoosesRoot (named x) =
              known_name other k.resolution k.of_choice x has in
              ap (λ (y : Key). has_key y resolved) at.0
              ∙ own_key choice_of resolved resolves items walked.same x
              (fits.has_known x at.1 known)

          -- and each name that it requires is that of a told key
          has_required : (x : Name) → Any (IsRequiredOf x) (asked_by_walk walked.emissions)
              → list_any (λ key. name_eq key.name x) keys ≡ true
          has_required x a =
              let there = fits.has_required x (subst (Any (IsRequiredOf x)) walked.same a) in
              key_passes (λ key. name_eq key.name x) keys (flat_key x)
              (told.in_keys (flat_key x) (named_by_key ms x there.value there.found)) (same_name x)

          met : is_viable keys resolved ≡ true
          met =
              viable_by_names schema.build schema.root is_flat choice_of resolved resolves keys
              has_required

          all_known : HasAllKnown schema keys listed.0 resolved
          all_known =
              choice_has_all schema own own.enumerates.choices own.enumerates.listed listed.0
              choice_of at_choice keys resolved
              (record { resolved = resolves; has_known = has_known; has_required = met })

          pub keeps : KeepsChoice schema keys c
          keeps = record {
            items = items;
            index = listed.0;
            is_of_choice = record {
              chooses =
                  of_schema (λ cat n. Chooses (parts_of cat) (of_struct n) c items) h;
              resolution = resolved;
              is_there = all_known.present;
              resolved = of_schema (λ cat n. Resolves (indices_of cat n c) resolved) resolves;
              has_names =
                  has_names_of schema.build schema.root is_flat choice_of resolved resolves items
                  walked.same;
            };
            is_viable = one_viable schema keys listed.0 resolved all_known met;
          }

    -- ---- what is viable
    module _ (ms : List Member) (some : SomeFits shapes root ms) (keys : List Key)
        (told : TellNames keys ms) (index : ℕ) (viable : IsViableAfter schema keys index)
      where
        abbrev end : State
        end = see_keys keys (new_solver schema)

        abbrev known : List Key
        known = known_keys schema.resolutions keys

        -- the resolution at the index has all known keys, and its required names are told
        record IsLeft : Type 0 where
          resolution : Resolved
          is_there : slice_get schema.resolutions index ≡ Some resolution
          has_all : has_keys known resolution ≡ true
          met : is_viable keys resolution ≡ true

        left : IsLeft
        left =
            let one = all_known some.choice some.items some.chooses ms some.fits keys told in
            let kept =
            in_filtered (passes (is_viable end.seen) end.schema.resolutions) end.candidates index
            viable in
            let candidates =
            known_left schema keys
            (listed some.choice some.items some.chooses).0
            (resolved some.choice some.items some.chooses) one in
            let among : Contains (indices_of_known) index =
            subst (λ (is : List ℕ). Contains is index) candidates kept.1 in
            let has =
            in_filtered (passes (has_keys known) schema.resolutions)
            (upto (length schema.resolutions)) index among in
            let at = passed_at (has_keys known) schema.resolutions index has.0 in
            let viable_at =
            passed_at (is_viable end.seen) schema.resolutions index
            (ap (λ (v : SchemaView). passes (is_viable end.seen) v.resolutions index)
            (sym (same_schema keys (new_solver schema))) ∙ kept.0) in
            record {
              resolution = at.0;
              is_there = at.1;
              has_all = at.2;
              met = sym (viable_told schema keys at.0)
                  ∙ ap (is_viable end.seen) (same_Some at.0 viable_at.0 (sym at.1 ∙ viable_at.1))
                  ∙ viable_at.2;
            }
          where
            indices_of_known : List ℕ
            indices_of_known = indices_with (known_keys schema.resolutions keys) schema

        -- the choice of the schema that it is of
        of_choice : (choice : List ℕ) × Resolves choice left.resolution
        of_choice =
            first_at Resolves own.enumerates.choices schema.resolutions index left.resolution
            own.enumerates.resolved left.is_there

        -- the choice of the reader that this is
        abbrev readers : IsChosen (λ target. false) ChoosesRoot (indices_of shapes root) of_choice.0
            of_choice.1.emissions []
        readers = agrees.chosen of_choice.0 of_choice.1.emissions [] of_choice.1.emitted

        same_choice : of_choice.0 ≡ indices_of shapes root readers.choice
        same_choice = readers.used ∙ append-nil (indices_of shapes root readers.choice)

        abbrev is : Resolves (indices_of shapes root readers.choice) left.resolution
        is = subst (λ (choice : List ℕ). Resolves choice left.resolution) same_choice of_choice.1

        fits : FitsByNames shapes root ms readers.items
        fits = record {
          has_known = λ x there is_known.
              let known_here =
              has_some is_known.choice is_known.items is_known.chooses x is_known.has in
              let among = told.in_keys (flat_key x) (named_by_key ms x there.value there.found) in
              key_own of_choice.0 left.resolution of_choice.1 readers.items (sym readers.same) x
              (known_has schema.resolutions keys left.resolution left.has_all (flat_key x) among
              known_here);
          has_required = λ x a.
              let asked = subst (Any (IsRequiredOf x)) readers.same a in
              let key =
              some_key (λ key. name_eq key.name x) keys
              (names_of_viable schema.build schema.root is_flat of_choice.0 left.resolution
              of_choice.1 keys left.met x asked) in
              let name_is : key.0.name ≡ x = (bytes_eq-Decides key.0.name x).0 key.2 in
              subst (HasNamed ms) name_is
              (key_is_named ms key.0 (told.in_others key.0 key.1)).1;
        }

        pub fitting : IsFitting schema ms index
        fitting = record {
          choice = readers.choice;
          items = readers.items;
          is_of_choice = record {
            chooses =
                of_schema
                (λ cat n. Chooses (parts_of cat) (of_struct n) readers.choice readers.items)
                readers.chooses;
            resolution = left.resolution;
            is_there = left.is_there;
            resolved =
                of_schema (λ cat n. Resolves (indices_of cat n readers.choice) left.resolution) is;
            has_names =
                has_names_of schema.build schema.root is_flat of_choice.0 left.resolution
                of_choice.1 readers.items (sym readers.same);
          };
          fits = of_schema (λ cat n. FitsByNames cat n ms readers.items) fits;
        }
