-- The paths that a command line asks for: what its files and its list stand for, in order.
use Rattle.std.specs.Prelude.{◌≡◌, ◌≢◌, ◌⊎◌, ◌==◌, ◌&&◌, not, ℕ, List, [], ◌∷◌, ◌++◌, length, map, codes, if◌then◌else◌, Option, Some, None, is_some, IfSome, IsSorted}
use Rattle.std.specs.Borrow.{Bor}
use Rattle.std.specs.Str.{IsUtf8}
use Rattle.std.specs.Global.{Vec}
use Rattle.archive_commands.specs.Lists.{Lists, items_of}
use Rattle.shogi_words.specs.declared.request.PathEnd.{PathEnd}
use Rattle.shogi_words.specs.declared.request.Records.{Records}
use Rattle.std.specs.Cmp.Lexicographic.{slice_cmp}
use Rattle.std.specs.Ordering.{nat_cmp}

-- the bytes of each name
abbrev pub names_of : List (Bor (List ℕ)) → List (List ℕ)
names_of files = map (λ file. file.now) files

-- the names of the files; that of standard input if neither a file nor a list is named
abbrev pub named_files : Records → List (List ℕ)
named_files records = if length records.files.now == 0 && not (is_some records.list)
    then codes "-" ∷ [] else names_of records.files.now

-- no path is less than the one before it
abbrev pub AreInByteOrder : List (Vec ℕ) → Type 0
AreInByteOrder paths = IsSorted (λ a b. slice_cmp nat_cmp a.items b.items) paths

-- the path stands for itself; or, if it can be that of a folder, and is not that of standard input,
-- for records in byte order
abbrev pub StandsFor : List ℕ → List (Vec ℕ) → Type 0
StandsFor path own = (items_of own ≡ path ∷ [])
    ⊎ (IsUtf8 path × (path ≢ codes "-") × AreInByteOrder own)

-- what each of these stands for is added in turn
abbrev pub AreAdded : (List ℕ → List (Vec ℕ) → Type 0) → List (List ℕ) → List (Vec ℕ)
    → List (Vec ℕ) → Type 0
AreAdded Stands [] old new = new ≡ old
AreAdded Stands (path ∷ paths) old new =
    (own : List (Vec ℕ)) × Stands path own × AreAdded Stands paths (old ++ own) new

-- there is no list; or it could be opened, and names these paths, as far as its bytes are known
abbrev pub NamesPaths : {Input : Type 0} → (Option (List ℕ) → Input → Type 0)
    → (Input → Option (List ℕ)) → PathEnd → Option (List ℕ) → List (List ℕ) → Type 0
NamesPaths Opened bytes end None listed = listed ≡ []
NamesPaths {Input} Opened bytes end (Some list) listed = (input : Input) × (text : List ℕ)
    × Opened (Some list) input × IfSome (bytes input) (λ known. text ≡ known)
    × Lists end text listed
