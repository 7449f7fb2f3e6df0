use Rattle.std.proofs.Common.{◌∙◌, ap, arith, length, subst, sym}
use Rattle.facet_solver.specs.build.Build.{build_of}
use Rattle.facet_solver.specs.build.Counts.{AreFirstCounts, CountsTo, count_at}
use Rattle.facet_solver.proofs.Count.{entry_counted, root-count, root_counted}
use Rattle.facet_solver.proofs.Roles.{KindBelow-mono}
use Rattle.facet_solver.proofs.build.count.Counts.of_root.Goals as goal

pub count_shape-requires-clause-below : goal.count_shape-requires-clause-below
count_shape-requires-clause-below c =
    let s = c.shape-shape.result.now in
    let all = ap length (c.as_slice-counts.ensures.value ∙ c.self.view_is) ∙ c.requires.counted.all in
    KindBelow-mono c.args.root (length c.as_slice-counts.result.now) s.kind (omega (arith, all, c.requires.has)) (c.shape-shape.ensures.checked c.args.root s c.shape-shape.ensures.found).kind

pub returns-in-Enum : goal.returns-in-Enum
returns-in-Enum c =
    let number = root-count (build_of c.args.build) c.args.root c.shape-shape.result.now c.shape-shape.ensures.found in
    subst (CountsTo c.count_shape.result) (sym number) c.count_shape.ensures.shape

-- any other shape has its entry
pub returns-in_default : goal.returns-in_default
returns-in_default c =
    let build = build_of c.args.build in
    let counts = c.as_slice-counts.result.now in
    let is = c.as_slice-counts.ensures.value ∙ c.self.view_is in
    let first : AreFirstCounts build counts = subst (AreFirstCounts build) (sym is) c.requires.counted.first in
    let all = ap length is ∙ c.requires.counted.all in
    subst (CountsTo _) (root_counted build c.shape-shape.result.now c.args.root c.shape-shape.ensures.found c.in_default.not-Enum)
    (subst (CountsTo _) (ap (λ id. count_at build id) c.index.ensures)
    (entry_counted build counts c.index.result _ first (omega (arith, all, c.requires.has, c.index.ensures))))
