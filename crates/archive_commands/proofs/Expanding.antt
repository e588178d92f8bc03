-- What paths stand for, added in turn.
use Rattle.std.proofs.Common.{◌≡◌, ◌<◌, ◌≤◌, ◌+◌, refl, sym, subst, ℕ, List, [], ◌∷◌, ◌++◌, length, drop, get_or, map, Option}
use Rattle.std.proofs.lemmas.List.{drop_all, drop_more}
use Rattle.std.specs.Global.{Vec}
use Rattle.archive_commands.specs.Paths.{AreAdded, NamesPaths, StandsFor}
use Rattle.hash_comments.specs.declared.comments.HashComments.{HashComments}
use Rattle.hash_comments.specs.declared.comments.HashLines.{HashLines}
use Rattle.record_commands.specs.Inputs.{IsOpenedAs}
use Rattle.record_commands.specs.declared.inputs.Input.{Input}
use Rattle.shogi_words.specs.declared.request.PathEnd.{PathEnd}

-- a path more, of those that some items have
pub next_added : {X : Type 0} (Stands : List ℕ → List (Vec ℕ) → Type 0) (path_of : X → List ℕ) (xs : List X) (i : ℕ) (d : X) (old mid new : List (Vec ℕ)) → i < length xs
    → ((own : List (Vec ℕ)) × Stands (path_of (get_or xs i d)) own × (mid ≡ old ++ own)) → AreAdded Stands (map path_of (drop (i + 1) xs)) mid new
    → AreAdded Stands (map path_of (drop i xs)) old new
next_added S path_of xs i d old mid new within one rest =
    subst (λ ys. AreAdded S (map path_of ys) old new) (sym (drop_more xs i d within)) (one.0, one.1, subst (λ m. AreAdded S (map path_of (drop (i + 1) xs)) m new) one.2 rest)

pub none_added : {X : Type 0} (Stands : List ℕ → List (Vec ℕ) → Type 0) (path_of : X → List ℕ) (xs : List X) (i : ℕ) (now : List (Vec ℕ)) → length xs ≤ i → AreAdded Stands (map path_of (drop i xs)) now now
none_added S path_of xs i now end = subst (λ ys. AreAdded S (map path_of ys) now now) (sym (drop_all i xs end)) refl

-- some paths, and then others
pub both_added : (Stands : List ℕ → List (Vec ℕ) → Type 0) (xs ys : List (List ℕ)) (old mid new : List (Vec ℕ)) → AreAdded Stands xs old mid → AreAdded Stands ys mid new → AreAdded Stands (xs ++ ys) old new
both_added S [] ys old mid new first second = subst (λ m. AreAdded S ys m new) first second
both_added S (x ∷ xs) ys old mid new first second = (first.0, first.1, both_added S xs ys (old ++ first.0) mid new first.2 second)

-- what a list names if lines from `#` are read in that way
pub named_so : {S F : Type 0} (bytes : HashComments (Input S F) → Option (List ℕ)) (end : PathEnd) (list : Option (List ℕ)) (names : List (List ℕ)) (lines wanted : HashLines) (paths : List (Vec ℕ)) → lines ≡ wanted
    → ((listed : List (List ℕ)) × NamesPaths (λ path. IsOpenedAs path lines) bytes end list listed × AreAdded StandsFor (names ++ listed) [] paths)
    → (listed : List (List ℕ)) × NamesPaths (λ path. IsOpenedAs path wanted) bytes end list listed × AreAdded StandsFor (names ++ listed) [] paths
named_so bytes end list names lines wanted paths same holds =
    subst (λ l. (listed : List (List ℕ)) × NamesPaths (λ path. IsOpenedAs path l) bytes end list listed × AreAdded StandsFor (names ++ listed) [] paths) same holds
