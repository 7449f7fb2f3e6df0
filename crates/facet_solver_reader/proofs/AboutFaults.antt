-- Which list a fault is of.
use Rattle.std.proofs.Common.{List}
use Rattle.facet_solver_reader.specs.declared.tables.order.Ordered.{Ordered}
use Rattle.facet_solver_reader.specs.declared.tables.fault.Fault.{Fault}
use Rattle.facet_solver_reader.specs.declared.tables.fault.Fault.TheVariants.{NoShape, ReadsItself, ContainsItself, NameTwice, TwoCatchAlls, OutOfMemory}
use Rattle.facet_solver_reader.specs.OrderedLists.{IsAbout}
use Rattle.facet_solver_reader.specs.Parts.{ListId, Part}
use Rattle.facet_solver_reader.specs.Placing.{IsWhyShared}
use Rattle.std.proofs.Common.{◌≡◌}

-- what is said of the list of a fault follows from what was
pub about_more : (L M : ListId → Type 0) → ((q : ListId) → L q → M q) → (f : Fault) → IsAbout L f
    → IsAbout M f
about_more L M more (NoShape shape) h = tt
about_more L M more (ReadsItself shape) h = tt
about_more L M more (ContainsItself id) h = more _ h
about_more L M more (NameTwice id name first second) h = more _ h
about_more L M more (TwoCatchAlls id first second) h = more _ h
about_more L M more OutOfMemory h = tt

-- a fault of parts is of the list that has them
pub about_shared : (o : Ordered) (id : ListId) (ps : List Part) (f : Fault)
    → IsWhyShared o id ps f → IsAbout (λ q. q ≡ id) f
about_shared o id ps (NoShape shape) w = tt
about_shared o id ps (ReadsItself shape) w = tt
about_shared o id ps (ContainsItself list) w = absurd w
about_shared o id ps (NameTwice list name first second) w = w.0
about_shared o id ps (TwoCatchAlls list first second) w = w.0
about_shared o id ps OutOfMemory w = tt
