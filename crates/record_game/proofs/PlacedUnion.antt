-- What can be placed one after another makes the union.
use Rattle.std.proofs.Common.{◌≡◌, ◌≢◌, ℕ, ◌+◌, ◌<◌, ◌==◌, ◌&&◌, Bool, true, false, not, List, [], ◌∷◌, ◌++◌, length, filter, map, get_or, Option, Some, None, Result, Ok, Err, refl, sym, ap, ◌∙◌, subst, append_assoc, arith, inl, inr}
use Rattle.std.specs.Prelude.{is_some, slice_set, nat_lt}
use Rattle.std.specs.List.{AllByRecursion, filter_map}
use Rattle.std.specs.Option.{option_to_list}
use Rattle.std.proofs.lemmas.Bool.{cases_Bool, eqb-true, eqb-false}
use Rattle.std.proofs.lemmas.List.{append-nil, length-append, length-set, get_or-set_same, get_or-set_other}
use Rattle.std.proofs.lemmas.List.Elements.{filter_map-append, filter-append}
use Rattle.shogi_board.specs.declared.color.Color.{Color}
use Rattle.shogi_board.specs.declared.color.Color.TheVariants.{Black, White}
use Rattle.shogi_board.specs.declared.kind.Kind.{Kind}
use Rattle.shogi_board.specs.declared.kind.Kind.TheVariants.{Pawn, Lance, Knight, Silver, Gold, Bishop, Rook, King, ProPawn, ProLance, ProKnight, ProSilver, Horse, Dragon}
use Rattle.shogi_board.specs.declared.kind.Piece.{Piece}
use Rattle.shogi_board.specs.declared.setup.SetupFault.{SetupFault}
use Rattle.shogi_board.specs.declared.setup.SetupFault.TheVariants.{SquareTaken, SecondKing, TooMany, NotThere, NotForHand, AfterRest}
use Rattle.shogi_board.specs.Cells.{Cells}
use Rattle.shogi_board.specs.Layout.{Layout}
use Rattle.shogi_board.specs.Pieces as kinds
use Rattle.shogi_board.specs.Pieces.{same_color, same_kind, is_king}
use Rattle.shogi_board.specs.Setup as setup
use Rattle.shogi_board.specs.Setup.{holds, one_more, rest_to, is_full}
use Rattle.shogi_board.specs.Totals.{hand_kinds, kings_of}
use Rattle.shogi_board.specs.Placing.{Placing, on, off, in_hand, rest, placing_fault, placed, unless, place_all, board_alone}
use Rattle.record_game.specs.Union.{put_on, off_at, is_held, rest_given, MayBeHeld, RestIsLast, MayTakeOff, left_on, on_square, bag_given, IsUnion, with_rest_given}
use Rattle.record_game.proofs.Bytes.{all_joined}

-- no fault: no test holds
not_first : (f : SetupFault) (b : Bool) (fs : List (SetupFault × Bool)) → setup.first_fault ((f, b) ∷ fs) ≡ None → (b ≡ false) × (setup.first_fault fs ≡ None)
not_first f true fs h = cc
not_first f false fs h = (refl, h)

untrue : (b : Bool) → not b ≡ false → b ≡ true
untrue true h = refl
untrue false h = cc

empty_cell : (c : Option Piece) → is_some c ≡ false → c ≡ None
empty_cell None h = refl
empty_cell (Some p) h = cc

-- with one more placing
offs_more : (m : ℕ) (done : List Placing) (p : Placing) → filter_map (off_at m) (p ∷ []) ≡ [] → filter_map (off_at m) (done ++ p ∷ []) ≡ filter_map (off_at m) done
offs_more m done p h =
    filter_map-append (off_at m) done (p ∷ []) ∙ (ap (λ ks. filter_map (off_at m) done ++ ks) h ∙ append-nil (filter_map (off_at m) done))

puts_more : (m : ℕ) (done : List Placing) (p : Placing) → filter_map (put_on m) (p ∷ []) ≡ [] → filter_map (put_on m) (done ++ p ∷ []) ≡ filter_map (put_on m) done
puts_more m done p h =
    filter_map-append (put_on m) done (p ∷ []) ∙ (ap (λ ks. filter_map (put_on m) done ++ ks) h ∙ append-nil (filter_map (put_on m) done))

counts_by : (f g : Kind → ℕ) → ((k : Kind) → f k ≡ g k) → (ks : List Kind) → map f ks ≡ map g ks
counts_by f g h [] = refl
counts_by f g h (k ∷ ks) = rw (h k) (ap (λ ns. g k ∷ ns) (counts_by f g h ks))

bag_more : (c : Color) (done : List Placing) (p : Placing) → ((k : Kind) → filter (is_held c k) (p ∷ []) ≡ []) → bag_given c (done ++ p ∷ []) ≡ bag_given c done
bag_more c done p h =
    counts_by (λ k. length (filter (is_held c k) (done ++ p ∷ []))) (λ k. length (filter (is_held c k) done))
    (λ k. ap length (filter-append (is_held c k) done (p ∷ []) ∙ (ap (λ ps. filter (is_held c k) done ++ ps) (h k) ∙ append-nil (filter (is_held c k) done)))) hand_kinds

rest_end : (done : List Placing) (p : Placing) → filter_map rest_given done ≡ [] → RestIsLast (done ++ p ∷ [])
rest_end [] (on m p) h = tt
rest_end [] (off m k) h = tt
rest_end [] (in_hand c k) h = tt
rest_end [] (rest c) h = refl
rest_end (on m q ∷ done) p h = rest_end done p h
rest_end (off m k ∷ done) p h = rest_end done p h
rest_end (in_hand c k ∷ done) p h = rest_end done p h
rest_end (rest c ∷ done) p h = cc

pub rests_more : (done : List Placing) (p : Placing) → filter_map rest_given done ≡ [] → filter_map rest_given (p ∷ []) ≡ [] → filter_map rest_given (done ++ p ∷ []) ≡ []
rests_more done p h k = filter_map-append rest_given done (p ∷ []) ∙ rw (h, k) refl

-- a piece on a square
on_here : (n m : ℕ) (p : Piece) (done : List Placing) → n ≡ m → filter_map (put_on m) (done ++ on n p ∷ []) ≡ filter_map (put_on m) done ++ p ∷ []
on_here n m p done e =
    filter_map-append (put_on m) done (on n p ∷ []) ∙ ap (λ ks. filter_map (put_on m) done ++ ks) (here n m e)
  where
    here : (n m : ℕ) → n ≡ m → filter_map (put_on m) (on n p ∷ []) ≡ p ∷ []
    here n m e = rw (hit n m e) refl
      where
        hit : (n m : ℕ) → n ≡ m → (n == m) ≡ true
        hit n m e = grind (arith, e)

there : (n m : ℕ) (p : Piece) → (n == m) ≡ false → filter_map (put_on m) (on n p ∷ []) ≡ []
there n m p h = rw h refl

joined_empty : (xs ys : List Piece) (p : Piece) → xs ++ ys ≡ [] → xs ++ (ys ++ p ∷ []) ≡ p ∷ []
joined_empty xs ys p h = sym (append_assoc xs ys (p ∷ [])) ∙ ap (λ zs. zs ++ p ∷ []) h

pub step_on : (first : Cells) (done : List Placing) (s : Layout) (n : ℕ) (p : Piece) → IsUnion first done s → filter_map rest_given done ≡ [] → n < 81 → get_or s.material.board n None ≡ None → IsUnion first (done ++ on n p ∷ []) (placed s (on n p))
step_on first done s n p u none low empty =
    record {
      squares = length-set s.material.board n (Some p) ∙ u.squares;
      cells = λ m less. elim (cases_Bool (n == m)) [
        | inl hit ↦
            let same : n ≡ m = eqb-true n m hit in
            let here : get_or s.material.board m None ≡ None = ap (λ i. get_or s.material.board i None) (sym same) ∙ empty in
            let before : on_square first done m ≡ [] = u.cells m less ∙ ap option_to_list here in
            let set_here : get_or (slice_set s.material.board n (Some p)) m None ≡ Some p = ap (λ i. get_or (slice_set s.material.board n (Some p)) i None) (sym same) ∙ get_or-set_same s.material.board n (Some p) None (omega (arith, low, u.squares)) in
            ap (λ ks. left_on (get_or first m None) ks ++ filter_map (put_on m) (done ++ on n p ∷ [])) (offs_more m done (on n p) refl)
            ∙ (ap (λ ps. left_on (get_or first m None) (filter_map (off_at m) done) ++ ps) (on_here n m p done same)
            ∙ (joined_empty (left_on (get_or first m None) (filter_map (off_at m) done)) (filter_map (put_on m) done) p before ∙ ap option_to_list (sym set_here)))
        | inr miss ↦
            let other : m ≢ n = λ e. eqb-false n m miss (sym e) in
            ap (λ ks. left_on (get_or first m None) ks ++ filter_map (put_on m) (done ++ on n p ∷ [])) (offs_more m done (on n p) refl)
            ∙ (ap (λ ps. left_on (get_or first m None) (filter_map (off_at m) done) ++ ps) (puts_more m done (on n p) (there n m p miss))
            ∙ (u.cells m less ∙ ap option_to_list (sym (get_or-set_other s.material.board n m (Some p) None other))))
      ];
      taken = λ m. rw (offs_more m done (on n p) refl) (u.taken m);
      held = all_joined MayBeHeld done (on n p ∷ []) u.held (tt, tt);
      black = u.black ∙ sym (bag_more Black done (on n p) (λ k. refl));
      white = u.white ∙ sym (bag_more White done (on n p) (λ k. refl));
      no_rest = u.no_rest;
      rest_last = rest_end done (on n p) none;
    }

-- a piece taken off
abbrev pub OnlyOff : Placing → Type 0
OnlyOff (on m p) = ⊥
OnlyOff (off m k) = Unit {0}
OnlyOff (in_hand c k) = ⊥
OnlyOff (rest c) = ⊥

pub none_put : (n : ℕ) (ps : List Placing) → AllByRecursion OnlyOff ps → filter_map (put_on n) ps ≡ []
none_put n [] h = refl
none_put n (on m p ∷ ps) h = absurd h.0
none_put n (off m k ∷ ps) h = none_put n ps h.1
none_put n (in_hand c k ∷ ps) h = absurd h.0
none_put n (rest c ∷ ps) h = absurd h.0

off_here : (n m : ℕ) (k : Kind) (done : List Placing) → (n == m) ≡ true → filter_map (off_at m) (done ++ off n k ∷ []) ≡ filter_map (off_at m) done ++ k ∷ []
off_here n m k done hit = filter_map-append (off_at m) done (off n k ∷ []) ∙ ap (λ ks. filter_map (off_at m) done ++ ks) (here hit)
  where
    here : (n == m) ≡ true → filter_map (off_at m) (off n k ∷ []) ≡ k ∷ []
    here h = rw h refl

off_there : (n m : ℕ) (k : Kind) → (n == m) ≡ false → filter_map (off_at m) (off n k ∷ []) ≡ []
off_there n m k h = rw h refl

-- what was left there, if it is held
was_left : (cell now : Option Piece) (ks : List Kind) (k : Kind) → left_on cell ks ++ [] ≡ option_to_list now → holds k now ≡ true → (ks ≡ []) × (cell ≡ now)
was_left None None [] k e h = cc
was_left None (Some q) [] k e h = cc
was_left (Some p) None [] k e h = cc
was_left (Some p) (Some q) [] k e h = let same : p ≡ q = cc in (refl, ap Some same)
was_left cell None (l ∷ ls) k e h = cc
was_left cell (Some q) (l ∷ ls) k e h = cc

pub step_off : (first : Cells) (done : List Placing) (s : Layout) (n : ℕ) (k : Kind) → IsUnion first done s → AllByRecursion OnlyOff done → filter_map rest_given done ≡ [] → n < 81 → holds k (get_or s.material.board n None) ≡ true → IsUnion first (done ++ off n k ∷ []) (placed s (off n k))
step_off first done s n k u only none low held =
    let old : left_on (get_or first n None) (filter_map (off_at n) done) ++ [] ≡ option_to_list (get_or s.material.board n None)
    = ap (λ ps. left_on (get_or first n None) (filter_map (off_at n) done) ++ ps) (sym (none_put n done only)) ∙ u.cells n low in
    let was = was_left (get_or first n None) (get_or s.material.board n None) (filter_map (off_at n) done) k old held in
    let now : filter_map (off_at n) (done ++ off n k ∷ []) ≡ k ∷ [] = off_here n n k done (itself n) ∙ ap (λ ks. ks ++ k ∷ []) was.0 in
    record {
      squares = length-set s.material.board n None ∙ u.squares;
      cells = λ m less. elim (cases_Bool (n == m)) [
        | inl hit ↦
            let same : m ≡ n = sym (eqb-true n m hit) in
            subst (λ i. on_square first (done ++ off n k ∷ []) i ≡ option_to_list (get_or (slice_set s.material.board n None) i None)) (sym same)
            (ap (λ ks. left_on (get_or first n None) ks ++ filter_map (put_on n) (done ++ off n k ∷ [])) now
            ∙ (puts_more n done (off n k) refl ∙ (none_put n done only ∙ ap option_to_list (sym (get_or-set_same s.material.board n None None (omega (arith, low, u.squares)))))))
        | inr miss ↦
            let other : m ≢ n = λ e. eqb-false n m miss (sym e) in
            ap (λ ks. left_on (get_or first m None) ks ++ filter_map (put_on m) (done ++ off n k ∷ [])) (offs_more m done (off n k) (off_there n m k miss))
            ∙ (ap (λ ps. left_on (get_or first m None) (filter_map (off_at m) done) ++ ps) (puts_more m done (off n k) refl)
            ∙ (u.cells m less ∙ ap option_to_list (sym (get_or-set_other s.material.board n m None None other))))
      ];
      taken = λ m. elim (cases_Bool (n == m)) [
        | inl hit ↦
            let same : m ≡ n = sym (eqb-true n m hit) in
            subst (λ i. MayTakeOff (get_or first i None) (filter_map (off_at i) (done ++ off n k ∷ []))) (sym same)
            (subst (λ ks. MayTakeOff (get_or first n None) ks) (sym now) (ap (holds k) was.1 ∙ held))
        | inr miss ↦ subst (λ ks. MayTakeOff (get_or first m None) ks) (sym (offs_more m done (off n k) (off_there n m k miss))) (u.taken m)
      ];
      held = all_joined MayBeHeld done (off n k ∷ []) u.held (tt, tt);
      black = u.black ∙ sym (bag_more Black done (off n k) (λ j. refl));
      white = u.white ∙ sym (bag_more White done (off n k) (λ j. refl));
      no_rest = u.no_rest;
      rest_last = rest_end done (off n k) none;
    }
  where
    itself : (n : ℕ) → (n == n) ≡ true
    itself n = grind arith

-- a piece in a hand
held_hit : (c : Color) (j : Kind) (done : List Placing) (d : Color) (k : Kind) → is_held c j (in_hand d k) ≡ true → length (filter (is_held c j) (done ++ in_hand d k ∷ [])) ≡ length (filter (is_held c j) done) + 1
held_hit c j done d k h =
    ap length (filter-append (is_held c j) done (in_hand d k ∷ []) ∙ ap (λ ps. filter (is_held c j) done ++ ps) (one h)) ∙ length-append (filter (is_held c j) done) (in_hand d k ∷ [])
  where
    one : is_held c j (in_hand d k) ≡ true → filter (is_held c j) (in_hand d k ∷ []) ≡ in_hand d k ∷ []
    one h = rw h refl

held_miss : (c : Color) (j : Kind) (done : List Placing) (d : Color) (k : Kind) → is_held c j (in_hand d k) ≡ false → length (filter (is_held c j) (done ++ in_hand d k ∷ [])) ≡ length (filter (is_held c j) done)
held_miss c j done d k h =
    ap length (filter-append (is_held c j) done (in_hand d k ∷ []) ∙ (ap (λ ps. filter (is_held c j) done ++ ps) (none h) ∙ append-nil (filter (is_held c j) done)))
  where
    none : is_held c j (in_hand d k) ≡ false → filter (is_held c j) (in_hand d k ∷ []) ≡ []
    none h = rw h refl

abbrev count : Color → Kind → List Placing → ℕ
count c j ps = length (filter (is_held c j) ps)

seven : (a b c d e f g p q r s t u v : ℕ) → a ≡ p → b ≡ q → c ≡ r → d ≡ s → e ≡ t → f ≡ u → g ≡ v → a ∷ b ∷ c ∷ d ∷ e ∷ f ∷ g ∷ [] ≡ p ∷ q ∷ r ∷ s ∷ t ∷ u ∷ v ∷ []
seven a b c d e f g p q r s t u v h i j k l m n = rw (h, i, j, k, l, m, n) refl

-- the bag has one more of that kind
bag_one_more : (c : Color) (done : List Placing) (k : Kind) → ((j : Kind) → is_held c j (in_hand c k) ≡ same_kind k j) → kinds.is_hand_kind k ≡ true → bag_given c (done ++ in_hand c k ∷ []) ≡ one_more (bag_given c done) k
bag_one_more c done Pawn same h = seven _ _ _ _ _ _ _ _ _ _ _ _ _ _ (held_hit c Pawn done c Pawn (same Pawn)) (held_miss c Lance done c Pawn (same Lance)) (held_miss c Knight done c Pawn (same Knight)) (held_miss c Silver done c Pawn (same Silver)) (held_miss c Gold done c Pawn (same Gold)) (held_miss c Bishop done c Pawn (same Bishop)) (held_miss c Rook done c Pawn (same Rook))
bag_one_more c done Lance same h = seven _ _ _ _ _ _ _ _ _ _ _ _ _ _ (held_miss c Pawn done c Lance (same Pawn)) (held_hit c Lance done c Lance (same Lance)) (held_miss c Knight done c Lance (same Knight)) (held_miss c Silver done c Lance (same Silver)) (held_miss c Gold done c Lance (same Gold)) (held_miss c Bishop done c Lance (same Bishop)) (held_miss c Rook done c Lance (same Rook))
bag_one_more c done Knight same h = seven _ _ _ _ _ _ _ _ _ _ _ _ _ _ (held_miss c Pawn done c Knight (same Pawn)) (held_miss c Lance done c Knight (same Lance)) (held_hit c Knight done c Knight (same Knight)) (held_miss c Silver done c Knight (same Silver)) (held_miss c Gold done c Knight (same Gold)) (held_miss c Bishop done c Knight (same Bishop)) (held_miss c Rook done c Knight (same Rook))
bag_one_more c done Silver same h = seven _ _ _ _ _ _ _ _ _ _ _ _ _ _ (held_miss c Pawn done c Silver (same Pawn)) (held_miss c Lance done c Silver (same Lance)) (held_miss c Knight done c Silver (same Knight)) (held_hit c Silver done c Silver (same Silver)) (held_miss c Gold done c Silver (same Gold)) (held_miss c Bishop done c Silver (same Bishop)) (held_miss c Rook done c Silver (same Rook))
bag_one_more c done Gold same h = seven _ _ _ _ _ _ _ _ _ _ _ _ _ _ (held_miss c Pawn done c Gold (same Pawn)) (held_miss c Lance done c Gold (same Lance)) (held_miss c Knight done c Gold (same Knight)) (held_miss c Silver done c Gold (same Silver)) (held_hit c Gold done c Gold (same Gold)) (held_miss c Bishop done c Gold (same Bishop)) (held_miss c Rook done c Gold (same Rook))
bag_one_more c done Bishop same h = seven _ _ _ _ _ _ _ _ _ _ _ _ _ _ (held_miss c Pawn done c Bishop (same Pawn)) (held_miss c Lance done c Bishop (same Lance)) (held_miss c Knight done c Bishop (same Knight)) (held_miss c Silver done c Bishop (same Silver)) (held_miss c Gold done c Bishop (same Gold)) (held_hit c Bishop done c Bishop (same Bishop)) (held_miss c Rook done c Bishop (same Rook))
bag_one_more c done Rook same h = seven _ _ _ _ _ _ _ _ _ _ _ _ _ _ (held_miss c Pawn done c Rook (same Pawn)) (held_miss c Lance done c Rook (same Lance)) (held_miss c Knight done c Rook (same Knight)) (held_miss c Silver done c Rook (same Silver)) (held_miss c Gold done c Rook (same Gold)) (held_miss c Bishop done c Rook (same Bishop)) (held_hit c Rook done c Rook (same Rook))
bag_one_more c done King same h = cc
bag_one_more c done ProPawn same h = cc
bag_one_more c done ProLance same h = cc
bag_one_more c done ProKnight same h = cc
bag_one_more c done ProSilver same h = cc
bag_one_more c done Horse same h = cc
bag_one_more c done Dragon same h = cc

not_other : (c d : Color) (k : Kind) (done : List Placing) → same_color d c ≡ false → bag_given c (done ++ in_hand d k ∷ []) ≡ bag_given c done
not_other c d k done h = bag_more c done (in_hand d k) (λ j. none j)
  where
    none : (j : Kind) → filter (is_held c j) (in_hand d k ∷ []) ≡ []
    none j = rw h refl

hand_cells : (first : Cells) (done : List Placing) (s : Layout) (c : Color) (k : Kind) → IsUnion first done s → (m : ℕ) → m < 81 → on_square first (done ++ in_hand c k ∷ []) m ≡ option_to_list (get_or s.material.board m None)
hand_cells first done s c k u m less =
    ap (λ ks. left_on (get_or first m None) ks ++ filter_map (put_on m) (done ++ in_hand c k ∷ [])) (offs_more m done (in_hand c k) refl)
    ∙ (ap (λ ps. left_on (get_or first m None) (filter_map (off_at m) done) ++ ps) (puts_more m done (in_hand c k) refl) ∙ u.cells m less)

pub step_hand : (first : Cells) (done : List Placing) (s : Layout) (c : Color) (k : Kind) → IsUnion first done s → filter_map rest_given done ≡ [] → kinds.is_hand_kind k ≡ true → IsUnion first (done ++ in_hand c k ∷ []) (placed s (in_hand c k))
step_hand first done s Black k u none held =
    record {
      squares = u.squares;
      cells = hand_cells first done s Black k u;
      taken = λ m. rw (offs_more m done (in_hand Black k) refl) (u.taken m);
      held = all_joined MayBeHeld done (in_hand Black k ∷ []) u.held (held, tt);
      black = ap (λ bag. one_more bag k) u.black ∙ sym (bag_one_more Black done k (λ j. refl) held);
      white = u.white ∙ sym (not_other White Black k done refl);
      no_rest = u.no_rest;
      rest_last = rest_end done (in_hand Black k) none;
    }
step_hand first done s White k u none held =
    record {
      squares = u.squares;
      cells = hand_cells first done s White k u;
      taken = λ m. rw (offs_more m done (in_hand White k) refl) (u.taken m);
      held = all_joined MayBeHeld done (in_hand White k ∷ []) u.held (held, tt);
      black = u.black ∙ sym (not_other Black White k done refl);
      white = ap (λ bag. one_more bag k) u.white ∙ sym (bag_one_more White done k (λ j. refl) held);
      no_rest = u.no_rest;
      rest_last = rest_end done (in_hand White k) none;
    }

-- all remaining pieces: the layout before is the union with it
pub step_rest : (first : Cells) (done : List Placing) (s : Layout) (c : Color) → IsUnion first done s → filter_map rest_given done ≡ [] → IsUnion first (done ++ rest c ∷ []) s
step_rest first done s c u none = record {
  squares = u.squares;
  cells = λ m less.
      ap (λ ks. left_on (get_or first m None) ks ++ filter_map (put_on m) (done ++ rest c ∷ [])) (offs_more m done (rest c) refl)
      ∙ (ap (λ ps. left_on (get_or first m None) (filter_map (off_at m) done) ++ ps) (puts_more m done (rest c) refl) ∙ u.cells m less);
  taken = λ m. rw (offs_more m done (rest c) refl) (u.taken m);
  held = all_joined MayBeHeld done (rest c ∷ []) u.held (tt, tt);
  black = u.black ∙ sym (bag_more Black done (rest c) (λ j. refl));
  white = u.white ∙ sym (bag_more White done (rest c) (λ j. refl));
  no_rest = u.no_rest;
  rest_last = rest_end done (rest c) none;
}

-- pieces are taken off first, and every square is among the 81
abbrev pub InTurn : List Placing → List Placing → Type 0
InTurn done [] = Unit {0}
InTurn done (on n p ∷ ps) = (n < 81) × InTurn (done ++ on n p ∷ []) ps
InTurn done (off n k ∷ ps) = (n < 81) × AllByRecursion OnlyOff done × InTurn (done ++ off n k ∷ []) ps
InTurn done (in_hand c k ∷ ps) = InTurn (done ++ in_hand c k ∷ []) ps
InTurn done (rest c ∷ ps) = InTurn (done ++ rest c ∷ []) ps

-- what was placed is the union, with the remaining pieces given
pub record IsPlacedUnion (first : Cells) (ps : List Placing) (t : Layout) : Type 0 where
  pub layout : Layout
  pub union : IsUnion first ps layout
  pub placed_is : t ≡ with_rest_given (filter_map rest_given ps) layout

fine_first : (fault : Option SetupFault) (next : Result Layout SetupFault) (t : Layout) → unless fault next ≡ Ok t → (fault ≡ None) × (next ≡ Ok t)
fine_first None next t h = (refl, h)
fine_first (Some f) next t h = cc

none_after : (s : Layout) (c : Color) (ps : List Placing) (t : Layout) → place_all (rest_to s c) ps ≡ Ok t → (ps ≡ []) × (t ≡ rest_to s c)
none_after s c [] t h = let same : rest_to s c ≡ t = cc in (refl, sym same)
none_after s c (on n p ∷ ps) t h = let clash : Err AfterRest ≡ Ok t = h in cc
none_after s c (off n k ∷ ps) t h = let clash : Err AfterRest ≡ Ok t = h in cc
none_after s c (in_hand d k ∷ ps) t h = let clash : Err AfterRest ≡ Ok t = h in cc
none_after s c (rest d ∷ ps) t h = let clash : Err AfterRest ≡ Ok t = h in cc

moved : (first : Cells) (done : List Placing) (p : Placing) (ps : List Placing) (t : Layout) → IsPlacedUnion first ((done ++ p ∷ []) ++ ps) t → IsPlacedUnion first (done ++ p ∷ ps) t
moved first done p ps t h = subst (λ all. IsPlacedUnion first all t) (append_assoc done (p ∷ []) ps) h

empty_if : (s : Layout) (n : ℕ) (p : Piece) → placing_fault s (on n p) ≡ None → get_or s.material.board n None ≡ None
empty_if s n p fine =
    let later : List (SetupFault × Bool) = (SecondKing, is_king p.kind && nat_lt 0 (kings_of s.material.board p.color)) ∷ (TooMany, is_full s p.kind) ∷ [] in
    let taken : List (SetupFault × Bool) = (SquareTaken, is_some (get_or s.material.board n None)) ∷ later in
    empty_cell (get_or s.material.board n None) (not_first SquareTaken (is_some (get_or s.material.board n None)) later (not_first AfterRest s.rest_given taken fine).1).0

held_if : (s : Layout) (n : ℕ) (k : Kind) → placing_fault s (off n k) ≡ None → holds k (get_or s.material.board n None) ≡ true
held_if s n k fine =
    let test = not (holds k (get_or s.material.board n None)) in
    untrue (holds k (get_or s.material.board n None)) (not_first NotThere test [] (not_first AfterRest s.rest_given ((NotThere, test) ∷ []) fine).1).0

fits_if : (s : Layout) (c : Color) (k : Kind) → placing_fault s (in_hand c k) ≡ None → kinds.is_hand_kind k ≡ true
fits_if s c k fine =
    let later : List (SetupFault × Bool) = (TooMany, is_full s k) ∷ [] in
    let seven_kinds : List (SetupFault × Bool) = (NotForHand, not (kinds.is_hand_kind k)) ∷ later in
    untrue (kinds.is_hand_kind k) (not_first NotForHand (not (kinds.is_hand_kind k)) later (not_first AfterRest s.rest_given seven_kinds fine).1).0

pub placed_union : (first : Cells) (done ps : List Placing) (s t : Layout) → IsUnion first done s → filter_map rest_given done ≡ [] → InTurn done ps → place_all s ps ≡ Ok t → IsPlacedUnion first (done ++ ps) t
placed_union first done [] s t u none turn h =
    let same : s ≡ t = cc in
    subst (λ all. IsPlacedUnion first all t) (sym (append-nil done))
    (record { layout = s; union = u; placed_is = rw none (sym same) })
placed_union first done (on n p ∷ ps) s t u none turn h =
    let step = fine_first (placing_fault s (on n p)) (place_all (placed s (on n p)) ps) t h in
    moved first done (on n p) ps t
    (placed_union first (done ++ on n p ∷ []) ps (placed s (on n p)) t (step_on first done s n p u none turn.0 (empty_if s n p step.0)) (rests_more done (on n p) none refl) turn.1 step.1)
placed_union first done (off n k ∷ ps) s t u none turn h =
    let step = fine_first (placing_fault s (off n k)) (place_all (placed s (off n k)) ps) t h in
    moved first done (off n k) ps t
    (placed_union first (done ++ off n k ∷ []) ps (placed s (off n k)) t (step_off first done s n k u turn.1 none turn.0 (held_if s n k step.0)) (rests_more done (off n k) none refl) turn.2 step.1)
placed_union first done (in_hand c k ∷ ps) s t u none turn h =
    let step = fine_first (placing_fault s (in_hand c k)) (place_all (placed s (in_hand c k)) ps) t h in
    moved first done (in_hand c k) ps t
    (placed_union first (done ++ in_hand c k ∷ []) ps (placed s (in_hand c k)) t (step_hand first done s c k u none (fits_if s c k step.0)) (rests_more done (in_hand c k) none refl) turn step.1)
placed_union first done (rest c ∷ ps) s t u none turn h =
    let step = fine_first (placing_fault s (rest c)) (place_all (placed s (rest c)) ps) t h in
    let end = none_after s c ps t step.1 in
    let given : filter_map rest_given (done ++ rest c ∷ []) ≡ c ∷ [] = filter_map-append rest_given done (rest c ∷ []) ∙ ap (λ cs. cs ++ c ∷ []) none in
    subst (λ qs. IsPlacedUnion first (done ++ rest c ∷ qs) t) (sym end.0)
    (record { layout = s; union = step_rest first done s c u none; placed_is = rw given end.1 })

-- the board to begin with is the union of nothing
pub begins : (first : Cells) → length first ≡ 81 → IsUnion first [] (board_alone first)
begins first squares = record {
  squares = squares;
  cells = λ n less. append-nil (option_to_list (get_or first n None));
  taken = λ n. tt;
  held = tt;
  black = refl;
  white = refl;
  no_rest = refl;
  rest_last = tt;
}
