-- Errors that tell why a text has no types.
use Rattle.std.proofs.Common.{◌≡◌, ◌≢◌, ℕ, List, Option, Result, Ok, Err, map, refl, ap, sym, ◌∙◌, subst}
use Rattle.std.specs.String.{string_bytes}
use Rattle.facet_solver_shape.specs.Names.{Name}
use Rattle.facet_solver_types.specs.declared.error.TypesError.{TypesError}
use Rattle.facet_solver_types.specs.declared.error.TypesError.TheVariants as error
use Rattle.facet_solver_types.specs.declared.failure.Failure as code
use Rattle.facet_solver_types.specs.declared.failure.Failure.TheVariants.{Text}
use Rattle.facet_solver_types.specs.declared.fault.Fault.{Fault}
use Rattle.facet_solver_types.specs.declared.fault.Fault.TheVariants as fault
use Rattle.facet_solver_types.specs.Errors.{Told, error_view, invalid, invalid_view, no_catalogue, no_root, out_of_memory, several, told_of}
use Rattle.facet_solver_types.specs.Failures.{Failure, failure_view, of_text, unless_failure, unless_fault}
use Rattle.facet_solver_types.specs.GivenTypes.{GivesTypes, IsTold}
use Rattle.facet_solver_types.specs.ParsedTexts.{Explains, types}
use Rattle.facet_solver_types.specs.TypesViews.{Types}

-- a failure that is told as something else than out of memory is something else
real : (text : List ℕ) (root : Option Name) (f : code.Failure) (told : Told)
    → told ≡ told_of text root (failure_view f) → told ≢ out_of_memory
    → f ≢ Text fault.OutOfMemory
real text root f told tells differs e =
    differs (tells ∙ ap (λ g. told_of text root (failure_view g)) e)

-- an error that tells a failure explains it
pub explained : (text : List ℕ) (root : Option Name) (f : code.Failure) (e : TypesError)
    → GivesTypes (types text root) (Err f)
    → (e ≢ error.OutOfMemory → error_view e ≡ told_of text root (failure_view f))
    → Explains text root e
explained text root f (error.Invalid found) given tells =
    let told : invalid (map invalid_view found.items) ≡ told_of text root (failure_view f) =
    tells (λ e. cc) in record {
      failure = failure_view f;
      of_outcome = given (real text root f (invalid (map invalid_view found.items)) told (λ e. cc));
      tells = told;
    }
explained text root f (error.Root problem met) given tells =
    let told : no_root problem met.now ≡ told_of text root (failure_view f) = tells (λ e. cc) in
    record {
      failure = failure_view f;
      of_outcome = given (real text root f (no_root problem met.now) told (λ e. cc));
      tells = told;
    }
explained text root f (error.Roots names) given tells =
    let told : several (map string_bytes names.items) ≡ told_of text root (failure_view f) =
    tells (λ e. cc) in record {
      failure = failure_view f;
      of_outcome = given (real text root f (several (map string_bytes names.items)) told (λ e. cc));
      tells = told;
    }
explained text root f (error.Catalogue refusal) given tells =
    let told : no_catalogue refusal ≡ told_of text root (failure_view f) = tells (λ e. cc) in
    record {
      failure = failure_view f;
      of_outcome = given (real text root f (no_catalogue refusal) told (λ e. cc));
      tells = told;
    }
explained text root f error.OutOfMemory given tells = tt

-- a fault of a stage tells the outcome
pub failed : {A : Type 0} (first : Result A Fault) (later : A → Result Types Failure) (f : Fault)
    → (f ≢ fault.OutOfMemory → first ≡ Err f)
    → Text f ≢ Text fault.OutOfMemory → IsTold (unless_fault first later) (of_text f)
failed first later f fails real =
    let none : unless_fault first later ≡ Err (of_text f) =
    ap (λ r. unless_fault r later) (fails (λ e. real (ap Text e))) in
    subst (λ (o : Result Types Failure). IsTold o (of_text f)) (sym none) refl

-- what a stage reads leads to the outcome
pub passed : {A : Type 0} (first : Result A Fault) (later : A → Result Types Failure) (x y : A)
    → first ≡ Ok x → y ≡ x → (r : Result Types code.Failure) → GivesTypes (later y) r
    → GivesTypes (unless_fault first later) r
passed first later x y read same r given =
    let led : later y ≡ unless_fault first later =
    ap later same ∙ sym (ap (λ o. unless_fault o later) read) in
    subst (λ (o : Result Types Failure). GivesTypes o r) led given

-- a failure of a stage tells the outcome
pub failed_whole : {A : Type 0} (first : Result A Failure) (later : A → Result Types Failure)
    (f : code.Failure)
    → (f ≢ Text fault.OutOfMemory → first ≡ Err (failure_view f))
    → f ≢ Text fault.OutOfMemory → IsTold (unless_failure first later) (failure_view f)
failed_whole first later f fails real =
    let none : unless_failure first later ≡ Err (failure_view f) =
    ap (λ r. unless_failure r later) (fails real) in
    subst (λ (o : Result Types Failure). IsTold o (failure_view f)) (sym none) refl

-- what a stage gives leads to the outcome
pub passed_whole : {A : Type 0} (first : Result A Failure) (later : A → Result Types Failure)
    (x y : A)
    → first ≡ Ok x → y ≡ x → (r : Result Types code.Failure) → GivesTypes (later y) r
    → GivesTypes (unless_failure first later) r
passed_whole first later x y read same r given =
    let led : later y ≡ unless_failure first later =
    ap later same ∙ sym (ap (λ o. unless_failure o later) read) in
    subst (λ (o : Result Types Failure). GivesTypes o r) led given
