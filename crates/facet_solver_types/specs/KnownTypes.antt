-- The types that need no declaration, by their names.
use Rattle.std.specs.Prelude.{ℕ, [], ◌∷◌, Option, option_map, codes}
use Rattle.std.specs.Option.{option_or}
use Rattle.facet_solver_shape.specs.Names.{Name}
use Rattle.facet_solver_shape.specs.declared.shape.ScalarType.{ScalarType}
use Rattle.facet_solver_shape.specs.declared.shape.ScalarType.TheVariants as scalars
use Rattle.facet_solver_types.specs.Cases.{said_by}
use Rattle.facet_solver_types.specs.declared.standard.Standard.{Standard}
use Rattle.facet_solver_types.specs.declared.standard.Standard.TheVariants as standards
use Rattle.facet_solver_types.specs.declared.typing.known.Applied.{Applied}
use Rattle.facet_solver_types.specs.declared.typing.known.Applied.TheVariants as made
use Rattle.facet_solver_types.specs.declared.typing.known.Known.{Known}
use Rattle.facet_solver_types.specs.declared.typing.known.Known.TheVariants.{Scalar, Dynamic, Cow, Phantom, ArrayVec, Wrapper, Hashed, Applied as AppliedTo, Standard as StandardType}

-- texts: any text is read
abbrev pub text : Name → Option ScalarType
text =
    said_by ((codes "String", scalars.String) ∷ (codes "PathBuf", scalars.String)
    ∷ (codes "Path", scalars.String)
    ∷ (codes "IpAddr", scalars.String) ∷ (codes "Ipv4Addr", scalars.String) ∷ (codes "Ipv6Addr", scalars.String)
    ∷ (codes "SocketAddr", scalars.String) ∷ [])

-- numbers with a sign, and texts
abbrev pub signed : Name → Option ScalarType
signed name =
    option_or
    (said_by ((codes "i8", scalars.I8) ∷ (codes "NonZeroI8", scalars.I8)
    ∷ (codes "i16", scalars.I16) ∷ (codes "NonZeroI16", scalars.I16)
    ∷ (codes "i32", scalars.I32) ∷ (codes "NonZeroI32", scalars.I32)
    ∷ (codes "i64", scalars.I64) ∷ (codes "NonZeroI64", scalars.I64)
    ∷ (codes "i128", scalars.I128) ∷ (codes "NonZeroI128", scalars.I128)
    ∷ (codes "isize", scalars.ISize) ∷ (codes "NonZeroIsize", scalars.ISize) ∷ []) name)
    (text name)

-- all numbers without fractions, and texts
abbrev pub unsigned : Name → Option ScalarType
unsigned name =
    option_or
    (said_by ((codes "u8", scalars.U8) ∷ (codes "NonZeroU8", scalars.U8)
    ∷ (codes "u16", scalars.U16) ∷ (codes "NonZeroU16", scalars.U16)
    ∷ (codes "u32", scalars.U32) ∷ (codes "NonZeroU32", scalars.U32)
    ∷ (codes "u64", scalars.U64) ∷ (codes "NonZeroU64", scalars.U64)
    ∷ (codes "u128", scalars.U128) ∷ (codes "NonZeroU128", scalars.U128)
    ∷ (codes "usize", scalars.USize) ∷ (codes "NonZeroUsize", scalars.USize) ∷ []) name)
    (signed name)

-- the scalars
abbrev pub scalar : Name → Option ScalarType
scalar name =
    option_or
    (said_by ((codes "bool", scalars.Bool) ∷ (codes "char", scalars.Char)
    ∷ (codes "str", scalars.Str) ∷ (codes "f32", scalars.F32)
    ∷ (codes "f64", scalars.F64) ∷ (codes "Number", scalars.F64) ∷ []) name)
    (unsigned name)

-- what is made of types
abbrev pub applied_type : Name → Option Applied
applied_type =
    said_by ((codes "Option", made.Option)
    ∷ (codes "Vec", made.List) ∷ (codes "VecDeque", made.List)
    ∷ (codes "LinkedList", made.List) ∷ (codes "BinaryHeap", made.List)
    ∷ (codes "BTreeSet", made.Set) ∷ (codes "BTreeMap", made.Map) ∷ (codes "Map", made.Map)
    ∷ (codes "Box", made.Pointer) ∷ (codes "Rc", made.Pointer) ∷ (codes "Arc", made.Pointer)
    ∷ [])

-- what is made of types and may name a hasher behind them
abbrev pub hashed_type : Name → Option Applied
hashed_type =
    said_by ((codes "HashSet", made.Set) ∷ (codes "IndexSet", made.Set)
    ∷ (codes "HashMap", made.Map) ∷ (codes "IndexMap", made.Map) ∷ [])

-- the types of std that documents have as a struct or an enum
abbrev pub standard_type : Name → Option Standard
standard_type =
    said_by ((codes "Duration", standards.Duration) ∷ (codes "SystemTime", standards.SystemTime)
    ∷ (codes "Range", standards.Range) ∷ (codes "RangeInclusive", standards.Range)
    ∷ (codes "RangeFrom", standards.RangeFrom) ∷ (codes "RangeTo", standards.RangeTo)
    ∷ (codes "Result", standards.Result) ∷ (codes "Bound", standards.Bound)
    ∷ (codes "OsString", standards.OsString) ∷ [])

-- the types that take types and may name no hasher, and those of std
abbrev pub plain_type : Name → Option Known
plain_type name =
    option_or (option_map AppliedTo (applied_type name))
    (option_map StandardType (standard_type name))

-- the types that take types, and those of std
abbrev pub made_type : Name → Option Known
made_type name = option_or (option_map Hashed (hashed_type name)) (plain_type name)

-- the types that are what a document has for the type in them
abbrev pub wrapper : Name → Option Known
wrapper name =
    option_or
    (said_by ((codes "Cell", Wrapper) ∷ (codes "RefCell", Wrapper)
    ∷ (codes "Mutex", Wrapper) ∷ (codes "RwLock", Wrapper)
    ∷ (codes "Wrapping", Wrapper) ∷ (codes "Saturating", Wrapper)
    ∷ (codes "Reverse", Wrapper) ∷ (codes "NonZero", Wrapper) ∷ (codes "SmallVec", Wrapper)
    ∷ []) name)
    (made_type name)

-- the types that are no scalars
abbrev pub other_type : Name → Option Known
other_type name =
    option_or
    (said_by ((codes "Value", Dynamic) ∷ (codes "JsonValue", Dynamic)
    ∷ (codes "RawValue", Dynamic) ∷ (codes "OwnedValue", Dynamic)
    ∷ (codes "IgnoredAny", Dynamic) ∷ (codes "Cow", Cow)
    ∷ (codes "PhantomData", Phantom) ∷ (codes "ArrayVec", ArrayVec) ∷ []) name)
    (wrapper name)

-- all of them
abbrev pub known_type : Name → Option Known
known_type name = option_or (option_map Scalar (scalar name)) (other_type name)

-- how many types it takes: a map two, others one
abbrev pub arity_of : Applied → ℕ
arity_of made.Map = 2
arity_of kind = 1
