-- What `same` prints and counts, one file after another.
use Rattle.std.proofs.Common.{true, ◌≡◌, ◌∙◌, ap, arith, sym, subst, refl, ℕ, ◌+◌, ◌<◌, ◌==◌, ◌&&◌, List, [], ◌∷◌, ◌++◌, length, take, get_or, Option, append_assoc, append-nil, length-take-le, ◌≤◌, zero, suc, Bool}
use Rattle.std.specs.Prelude.{nat_lt}
use Rattle.std.specs.Global.{Vec}
use Rattle.std.specs.Io.KnownBytes.{Appends}
use Rattle.std.specs.List.{All}
use Rattle.std.proofs.KnownBytes.{Appends-trans}
use Rattle.std.proofs.lemmas.List.{get_or-map, take_more}
use Rattle.std.proofs.lemmas.List.Elements.{Contains-get_or}
use Rattle.archive_commands.specs.Lists.{items_of}
use Rattle.archive_commands.specs.Same.{path_at}
use Rattle.archive_commands.specs.SameGroups.{counted_with, group_line, group_lines, tally_from}
use Rattle.archive_commands.specs.declared.many.Tally.{Tally}
use Rattle.game_archive.proofs.Placed.{within}
use Rattle.game_archive.specs.Listing.{ListsShared}
use Rattle.game_archive.specs.declared.grouping.Placing.{Placing}
use Rattle.shogi_words.specs.declared.request.PathEnd.{PathEnd}

-- the line of one member, if so many lines are before it
abbrev line_at : PathEnd → List (List ℕ) → ℕ → ℕ × ℕ → List ℕ
line_at end paths before m = group_line end (nat_lt 0 before && (m.0 == m.1)) (path_at paths m.1)

lines_pushed : (end : PathEnd) (paths : List (List ℕ)) (before : ℕ) (ms : List (ℕ × ℕ)) (m : ℕ × ℕ)
    → group_lines end paths before (ms ++ m ∷ []) ≡ group_lines end paths before ms ++ line_at end paths (before + length ms) m
lines_pushed end paths before [] m =
    let e : before ≡ before + length {A = ℕ × ℕ} [] = omega arith in
    append-nil (line_at end paths before m) ∙ ap (λ n. line_at end paths n m) e
lines_pushed end paths before (x ∷ ms) m =
    let e : (before + 1) + length ms ≡ before + length (x ∷ ms) = omega arith in
    ap (λ l. line_at end paths before x ++ l) (lines_pushed end paths (before + 1) ms m ∙ ap (λ n. group_lines end paths (before + 1) ms ++ line_at end paths n m) e)
    ∙ sym (append_assoc (line_at end paths before x) (group_lines end paths (before + 1) ms) (line_at end paths (before + length (x ∷ ms)) m))

-- the line of the next member is printed
pub line_printed : (end : PathEnd) (paths : List (List ℕ)) (ms : List (ℕ × ℕ)) (k : ℕ) (d : ℕ × ℕ) (old mid new : Option (List ℕ)) → k < length ms
    → Appends old mid (group_lines end paths 0 (take k ms)) → Appends mid new (line_at end paths k (get_or ms k d))
    → Appends old new (group_lines end paths 0 (take (k + 1) ms))
line_printed end paths ms k d old mid new less before one =
    let n : 0 + length (take k ms) ≡ k = let l = length-take-le k ms (omega (arith, less)) in omega (arith, l) in
    let e : group_lines end paths 0 (take (k + 1) ms) ≡ group_lines end paths 0 (take k ms) ++ line_at end paths k (get_or ms k d) =
    ap (group_lines end paths 0) (take_more ms k d less) ∙ lines_pushed end paths 0 (take k ms) (get_or ms k d)
    ∙ ap (λ i. group_lines end paths 0 (take k ms) ++ line_at end paths i (get_or ms k d)) n in
    subst (Appends old new) (sym e) (Appends-trans old mid new (group_lines end paths 0 (take k ms)) (line_at end paths k (get_or ms k d)) before one)

-- whether a line begins a further group, if there are lines before it and if there are none
pub begins_later : (k : ℕ) (begins further : Bool) → 0 < k → begins ≡ further → begins ≡ (nat_lt 0 k && further)
begins_later k begins further less is = let some : nat_lt 0 k ≡ true = grind (arith) in is ∙ ap (λ b. b && further) (sym some)

pub begins_first : (k : ℕ) (begins further : Bool) → k ≤ 0 → begins ≡ nat_lt 0 k → begins ≡ (nat_lt 0 k && further)
begins_first zero begins further least is = is
begins_first (suc k) begins further least is = absurd (omega (arith, least))

-- the path of a file
pub path_is : (paths : List (Vec ℕ)) (at : ℕ) (d : Vec ℕ) → at < length paths → path_at (items_of paths) at ≡ (get_or paths at d).items
path_is paths at d less = get_or-map (λ p. p.items) paths at d [] less

tally_pushed : (t : Tally) (ps : List Placing) (p : Placing) → tally_from t (ps ++ p ∷ []) ≡ counted_with (tally_from t ps) p
tally_pushed t [] p = refl
tally_pushed t (x ∷ ps) p = tally_pushed (counted_with t x) ps p

-- the next file is counted
pub tally_more : (t now after : Tally) (ps : List Placing) (i : ℕ) (d : Placing) → i < length ps → now ≡ tally_from t (take i ps) → after ≡ counted_with now (get_or ps i d)
    → after ≡ tally_from t (take (i + 1) ps)
tally_more t now after ps i d less is counts =
    counts ∙ ap (λ x. counted_with x (get_or ps i d)) is ∙ sym (tally_pushed t (take i ps) (get_or ps i d)) ∙ ap (tally_from t) (sym (take_more ps i d less))

-- each member of a group is a file
pub members_within : (placings : List Placing) (members : List (ℕ × ℕ)) (files : ℕ) → length placings ≡ files → ListsShared placings members → All (λ m. m.1 < files) members
members_within placings members files whole shared = λ i d less.
    let m = get_or members i d in
    let listed = (shared m.0 m.1).1 (Contains-get_or members i d less) in
    let w = within placings m.1 m.0 listed.0 in
    omega (arith, w, whole)
