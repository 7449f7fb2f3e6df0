use Rattle.std.proofs.Common.{◌≡◌, ◌-◌, ◌∷◌, ◌∙◌, ℕ, List, ap, arith, get_or, length, subst, sym}
use Rattle.std.proofs.lemmas.List.Sums.{get_or-le-sum_by}
use Rattle.facet_solver_shape.specs.declared.shape.Field.{Field}
use Rattle.facet_solver_shape.specs.declared.shape.Variant.{Variant}
use Rattle.facet_solver_shape.specs.Catalogues.{FieldsBelow}
use Rattle.facet_solver.specs.build.Build.{build_of}
use Rattle.facet_solver.specs.build.ChoiceParts.{IsRank, choice_at}
use Rattle.facet_solver.specs.build.Content.{content_of}
use Rattle.facet_solver.specs.build.Count.{count_fields}
use Rattle.facet_solver.specs.build.Listing.{choices_of_fields}
use Rattle.facet_solver.specs.build.Starts.{count_before}
use Rattle.facet_solver.specs.build.Work.{work_of_fields, work_of_variant}
use Rattle.facet_solver.proofs.Roles.{VariantsBelow-at, content_of-below}
use Rattle.facet_solver.proofs.Starts.{choice_in_content, exact_start, first_start, last_stands, rank_in_content, some_start, starts_rise}
use Rattle.facet_solver.proofs.build.choices.variant_at.Goals as goal

pub last_start-index-requires-clause-rise : goal.last_start-index-requires-clause-rise
last_start-index-requires-clause-rise c =
    starts_rise (build_of c.args.walker.now.build) c.args.variants.now c.args.starts.now c.requires.starts c.args.rank c.requires.rank

pub last_start-index-requires-clause-some : goal.last_start-index-requires-clause-some
last_start-index-requires-clause-some c =
    some_start (build_of c.args.walker.now.build) c.args.variants.now c.args.starts.now c.requires.starts c.args.rank c.requires.rank

pub last_start-index-requires-clause-first : goal.last_start-index-requires-clause-first
last_start-index-requires-clause-first c =
    first_start (build_of c.args.walker.now.build) c.args.variants.now c.args.starts.now c.requires.starts c.args.rank c.requires.rank

pub returns-clause-below : goal.returns-clause-below
returns-clause-below c =
    let build = build_of c.args.walker.now.build in
    let cat = build.catalogue in
    let v = c.index-variants-index.result in
    let stands = last_stands build c.args.variants.now c.args.starts.now c.requires.starts c.args.rank c.requires.rank c.last_start-index.result c.last_start-index.ensures in
    let own = VariantsBelow-at (length cat) c.args.variants.now c.last_start-index.result v stands.within c.requires.below in
    subst (FieldsBelow (length cat)) (sym c.content_fields-fields.ensures)
    (content_of-below cat c.requires.ready.checked (length cat) v (subst (λ (v : Variant). FieldsBelow (length cat) v.fields.items) (sym c.index-variants-index.is) own))

pub returns-clause-rank : goal.returns-clause-rank
returns-clause-rank c =
    let build = build_of c.args.walker.now.build in
    let vs = c.args.variants.now in
    let starts = c.args.starts.now in
    let k = c.args.rank in
    let i = c.last_start-index.result in
    let stands = last_stands build vs starts c.requires.starts k c.requires.rank i c.last_start-index.ensures in
    let start : get_or starts i 0 ≡ count_before build vs i = exact_start build vs starts c.requires.starts k c.requires.rank i 0 stands.within in
    let rank = rank_in_content build vs i k c.index-variants-index.result c.requires.rank stands c.index-variants-index.is in
    subst (λ (fs : List Field). IsRank (k - get_or starts i 0) (count_fields build fs)) (sym c.content_fields-fields.ensures) (rw start rank)

pub returns-clause-choice : goal.returns-clause-choice
returns-clause-choice c =
    let build = build_of c.args.walker.now.build in
    let vs = c.args.variants.now in
    let starts = c.args.starts.now in
    let k = c.args.rank in
    let i = c.last_start-index.result in
    let v = c.index-variants-index.result in
    let stands = last_stands build vs starts c.requires.starts k c.requires.rank i c.last_start-index.ensures in
    let start : get_or starts i 0 ≡ count_before build vs i = exact_start build vs starts c.requires.starts k c.requires.rank i 0 stands.within in
    choice_in_content build vs i k v c.requires.rank stands c.index-variants-index.is
    ∙ ap (λ (n : ℕ). i ∷ choice_at (choices_of_fields build (content_of build.catalogue v).fields) (k - n)) (sym start)
    ∙ ap (λ (fs : List Field). i ∷ choice_at (choices_of_fields build fs) (k - get_or starts i 0)) (sym c.content_fields-fields.ensures)

pub returns-clause-work : goal.returns-clause-work
returns-clause-work c =
    let build = build_of c.args.walker.now.build in
    let vs = c.args.variants.now in
    let work = work_of_variant (work_of_fields build) build.catalogue in
    let stands = last_stands build vs c.args.starts.now c.requires.starts c.args.rank c.requires.rank c.last_start-index.result c.last_start-index.ensures in
    let one = get_or-le-sum_by work vs c.last_start-index.result c.index-variants-index.result stands.within in
    let same = ap work c.index-variants-index.is in
    let content = ap (work_of_fields build) c.content_fields-fields.ensures in
    omega (arith, one, same, content)
