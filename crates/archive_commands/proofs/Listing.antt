-- The paths in the parts of a list.
use Rattle.std.proofs.Common.{◌≡◌, ◌∙◌, ap, sym, refl, ℕ, false, ◌==◌, List, [], ◌∷◌, ◌++◌, length, Contains}
use Rattle.std.proofs.lemmas.List.{append_assoc, append-nil, map-append}
use Rattle.std.specs.Global.{Vec}
use Rattle.archive_commands.specs.Lists.{Lists, code_of, items_of, path_in, some_path, without_cr}
use Rattle.shogi_words.specs.declared.request.PathEnd.{PathEnd}

some_one : (path : List ℕ) → (length path == 0) ≡ false → some_path path ≡ path ∷ []
some_one [] is = cc
some_one (b ∷ path) is = refl

-- a path is added
pub kept : (end : PathEnd) (paths new : List (Vec ℕ)) (v : Vec ℕ) (part path : List ℕ) → new ≡ paths ++ v ∷ [] → v.items ≡ path → path ≡ without_cr end part → (length path == 0) ≡ false
    → items_of new ≡ items_of paths ++ path_in end part
kept end paths new v part path grown same is some =
    ap items_of grown ∙ map-append (λ p. p.items) paths (v ∷ [])
    ∙ ap (λ p. items_of paths ++ p ∷ []) same
    ∙ ap (λ ps. items_of paths ++ ps) (sym (some_one path some) ∙ ap some_path is)

-- a part is taken off the front
pub more_parts : (end : PathEnd) (bytes part after : List ℕ) (more : List (List ℕ)) → bytes ≡ part ++ code_of end ∷ after → (Contains part (code_of end) → ⊥)
    → Lists end after more → Lists end bytes (path_in end part ++ more)
more_parts end bytes part after more whole apart (parts, are, is) =
    let e = code_of end in (
      part ∷ parts,
      record {
        whole = ap (λ b. b ++ e ∷ []) whole ∙ append_assoc part (e ∷ after) (e ∷ []) ∙ ap (λ t. part ++ (e ∷ t)) are.whole;
        apart = (apart, are.apart);
      },
      ap (λ ps. path_in end part ++ ps) is,
    )

-- the last part
pub last_part : (end : PathEnd) (bytes : List ℕ) → (Contains bytes (code_of end) → ⊥) → Lists end bytes (path_in end bytes)
last_part end bytes apart = (bytes ∷ [], record { whole = refl; apart = (apart, tt) }, sym (append-nil (path_in end bytes)))
