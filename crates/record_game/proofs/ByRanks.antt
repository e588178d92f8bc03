-- Ranks and hands give a start.
use Rattle.std.proofs.Common.{◌≡◌, ℕ, zero, suc, ◌+◌, ◌*◌, ◌-◌, ◌<◌, ◌==◌, ◌&&◌, Bool, true, false, List, [], ◌∷◌, ◌++◌, filter, map, get_or, Option, Some, None, refl, sym, ap, ◌∙◌, append_assoc, arith, inl, inr}
use Rattle.std.specs.Prelude.{nat_eq, if◌then◌else◌}
use Rattle.std.specs.Cmp.Lexicographic.{pointwise}
use Rattle.std.specs.List.{AllByRecursion, filter_map, flat_map}
use Rattle.std.specs.Option.{option_to_list}
use Rattle.std.proofs.lemmas.Bool.{cases_Bool, cases_lt}
use Rattle.std.proofs.lemmas.List.{append-nil}
use Rattle.std.proofs.lemmas.List.Elements.{filter_map-append}
use Rattle.shogi_board.specs.declared.kind.Piece.{Piece}
use Rattle.shogi_board.specs.Cells.{Cells}
use Rattle.csa_text.specs.Saying.{rank}
use Rattle.record_game.specs.Placings.{cells_placings, placings}
use Rattle.record_game.specs.Union.{put_on}
use Rattle.record_game.specs.Canon.{rank_cells, rank_items}
use Rattle.record_game.proofs.Pieces.{and_left, and_right}
use Rattle.std.proofs.lemmas.Slice.Eq.{slice_eq-Decides}
use Rattle.std.proofs.lemmas.Bool.Decides.{Decides-eqb}

-- what is on the square with this place
abbrev pick : Cells → ℕ → ℕ → List Piece
pick cells n k = if k == n then option_to_list (get_or cells k None) else []

-- the places of a rank, file 9 first
abbrev rank_places : ℕ → List ℕ
rank_places number = map (λ b. b + (number - 1)) (72 ∷ 63 ∷ 54 ∷ 45 ∷ 36 ∷ 27 ∷ 18 ∷ 9 ∷ 0 ∷ [])

abbrev numbers : List ℕ
numbers = 1 ∷ 2 ∷ 3 ∷ 4 ∷ 5 ∷ 6 ∷ 7 ∷ 8 ∷ 9 ∷ []

-- a cell that is put, and those after it
cell_put : (n file number : ℕ) (c : Option Piece) (cs : List (Option Piece)) → filter_map (put_on n) (cells_placings file number (c ∷ cs)) ≡ (if (file - 1) * 9 + (number - 1) == n then option_to_list c else []) ++ filter_map (put_on n) (cells_placings (file - 1) number cs)
cell_put n file number None cs = neither ((file - 1) * 9 + (number - 1) == n) (filter_map (put_on n) (cells_placings (file - 1) number cs))
  where
    neither : (b : Bool) (xs : List Piece) → xs ≡ (if b then [] else []) ++ xs
    neither true xs = refl
    neither false xs = refl
cell_put n file number (Some p) cs =
    elim (cases_Bool ((file - 1) * 9 + (number - 1) == n)) [
      | inl hit ↦ rw hit refl
      | inr miss ↦ rw miss refl
    ]

-- the cells of a rank, each on its own square
abbrev row_picks : ℕ → ℕ → ℕ → List (Option Piece) → List Piece
row_picks n file number [] = []
row_picks n file number (c ∷ cs) = (if (file - 1) * 9 + (number - 1) == n then option_to_list c else []) ++ row_picks n (file - 1) number cs

row_put : (n file number : ℕ) (cs : List (Option Piece)) → filter_map (put_on n) (cells_placings file number cs) ≡ row_picks n file number cs
row_put n file number [] = refl
row_put n file number (c ∷ cs) =
    cell_put n file number c cs
    ∙ ap (λ xs. (if (file - 1) * 9 + (number - 1) == n then option_to_list c else []) ++ xs) (row_put n (file - 1) number cs)

-- the places of a rank
picked_places : ℕ → ℕ → List ℕ
picked_places n number = filter (λ k. k == n) (rank_places number)

chosen : (cells : Cells) (n k : ℕ) (ks : List ℕ) → flat_map (λ j. option_to_list (get_or cells j None)) (filter (λ j. j == n) (k ∷ ks)) ≡ pick cells n k ++ flat_map (λ j. option_to_list (get_or cells j None)) (filter (λ j. j == n) ks)
chosen cells n k ks =
    elim (cases_Bool (k == n)) [
      | inl hit ↦ rw hit refl
      | inr miss ↦ rw miss refl
    ]

picks : (cells : Cells) (n : ℕ) (ks : List ℕ) → flat_map (pick cells n) ks ≡ flat_map (λ j. option_to_list (get_or cells j None)) (filter (λ j. j == n) ks)
picks cells n [] = refl
picks cells n (k ∷ ks) = ap (λ xs. pick cells n k ++ xs) (picks cells n ks) ∙ sym (chosen cells n k ks)

row_is : (cells : Cells) (n : ℕ) → AllByRecursion (λ number. row_picks n 9 number (rank_cells cells number) ≡ flat_map (pick cells n) (rank_places number)) numbers
row_is cells n = (refl, (refl, (refl, (refl, (refl, (refl, (refl, (refl, (refl, tt)))))))))

pub flat_joined : {X Y : Type 0} (f : X → List Y) (xs ys : List X) → flat_map f (xs ++ ys) ≡ flat_map f xs ++ flat_map f ys
flat_joined f [] ys = refl
flat_joined f (x ∷ xs) ys = ap (λ zs. f x ++ zs) (flat_joined f xs ys) ∙ sym (append_assoc (f x) (flat_map f xs) (flat_map f ys))

-- all ranks together
ranks_put : (cells : Cells) (n : ℕ) (ns : List ℕ) → AllByRecursion (λ number. row_picks n 9 number (rank_cells cells number) ≡ flat_map (pick cells n) (rank_places number)) ns
    → filter_map (put_on n) (placings (map (λ number. rank number (rank_cells cells number)) ns)) ≡ flat_map (λ j. option_to_list (get_or cells j None)) (flat_map (picked_places n) ns)
unfolding picked_places
ranks_put cells n [] h = refl
ranks_put cells n (number ∷ ns) h =
    filter_map-append (put_on n) (cells_placings 9 number (rank_cells cells number)) (placings (map (λ m. rank m (rank_cells cells m)) ns))
    ∙ (ap (λ xs. xs ++ filter_map (put_on n) (placings (map (λ m. rank m (rank_cells cells m)) ns))) (row_put n 9 number (rank_cells cells number) ∙ h.0 ∙ picks cells n (rank_places number))
    ∙ (ap (λ xs. flat_map (λ j. option_to_list (get_or cells j None)) (filter (λ j. j == n) (rank_places number)) ++ xs) (ranks_put cells n ns h.1)
    ∙ sym (flat_joined (λ j. option_to_list (get_or cells j None)) (filter (λ j. j == n) (rank_places number)) (flat_map (λ m. filter (λ j. j == n) (rank_places m)) ns))))

-- each place occurs once, which is proved by trying all
tries : ℕ → Bool
tries zero = true
tries (suc n) = pointwise nat_eq (flat_map (picked_places n) numbers) (n ∷ []) && tries n

tried : (m n : ℕ) → tries m ≡ true → n < m → pointwise nat_eq (flat_map (picked_places n) numbers) (n ∷ []) ≡ true
unfolding tries
tried zero n h less = absurd (omega arith)
tried (suc m) n h less =
    elim (cases_lt n m) [
      | inl under ↦ tried m n (and_right _ _ h) under
      | inr over ↦ let same : n ≡ m = omega (arith, less, over) in rw same (and_left _ _ h)
    ]

all_tried : tries 81 ≡ true
unfolding tries picked_places
all_tried = refl

lists_same : (a b : List ℕ) → pointwise nat_eq a b ≡ true → a ≡ b
lists_same a b h = (slice_eq-Decides Decides-eqb a b (pointwise nat_eq a b) refl).0 h

once : (n : ℕ) → n < 81 → flat_map (picked_places n) numbers ≡ n ∷ []
once n less = lists_same (flat_map (picked_places n) numbers) (n ∷ []) (tried 81 n all_tried less)

pub ranks_cell : (cells : Cells) (n : ℕ) → n < 81 → filter_map (put_on n) (placings (rank_items cells)) ≡ option_to_list (get_or cells n None)
ranks_cell cells n less =
    ranks_put cells n numbers (row_is cells n) ∙ (ap (λ ks. flat_map (λ j. option_to_list (get_or cells j None)) ks) (once n less) ∙ append-nil (option_to_list (get_or cells n None)))
