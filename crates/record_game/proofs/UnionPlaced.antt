-- The union can be placed one after another.
use Rattle.std.proofs.Common.{◌≡◌, ◌≢◌, ℕ, ◌+◌, ◌<◌, ◌≤◌, ◌==◌, ◌&&◌, Bool, true, false, cond, List, [], ◌∷◌, ◌++◌, length, get_or, set, Option, Some, None, Ok, refl, sym, ap, ◌∙◌, subst, append_assoc, arith, inl, inr}
use Rattle.std.specs.Prelude.{slice_index, nat_lt, nat_le}
use Rattle.std.specs.List.{AllByRecursion, filter_map}
use Rattle.std.specs.Option.{option_to_list}
use Rattle.std.proofs.lemmas.Bool.{cases_Bool, eqb-true, eqb-false, lt-leb}
use Rattle.std.proofs.lemmas.List.{append-nil, get_or-set_same, get_or-set_other}
use Rattle.std.proofs.lemmas.List.Elements.{filter_map-append}
use Rattle.std.proofs.lemmas.List.Sums.{sum_by-set}
use Rattle.shogi_board.specs.declared.color.Color.{Color}
use Rattle.shogi_board.specs.declared.color.Color.TheVariants.{Black, White}
use Rattle.shogi_board.specs.declared.kind.Kind.{Kind}
use Rattle.shogi_board.specs.declared.kind.Piece.{Piece}
use Rattle.shogi_board.specs.Cells.{Cells}
use Rattle.shogi_board.specs.Layout.{Layout}
use Rattle.shogi_board.specs.Pieces as kinds
use Rattle.shogi_board.specs.Pieces.{same_color, same_kind, place_of, is_king}
use Rattle.shogi_board.specs.Setup.{holds, one_more, rest_to}
use Rattle.shogi_board.specs.Totals.{IsWithinTotals, total, limit, kings_of, is_king_of, count_in}
use Rattle.shogi_board.proofs.Forms.{held-low, same_color-self, eq-self}
use Rattle.shogi_rules.proofs.Layouts.{put-total}
use Rattle.shogi_board.specs.Placing.{Placing, on, off, in_hand, rest, placing_fault, placed, unless, place_all}
use Rattle.record_game.specs.Union.{put_on, off_at, rest_given, MayBeHeld, RestIsLast, MayTakeOff, left_on, IsUnion, with_rest_given}
use Rattle.record_game.proofs.PlacedUnion.{OnlyOff, InTurn, step_on, step_off, step_hand, step_rest, rests_more, none_put}
use Rattle.record_game.proofs.SaysOnce.{union_once}

-- no further piece is taken off
abbrev NoOff : Placing → Type 0
NoOff (on n p) = Unit {0}
NoOff (off n k) = ⊥
NoOff (in_hand c k) = Unit {0}
NoOff (rest c) = Unit {0}

mixed : (done : List Placing) (p : Placing) → (OnlyOff p → ⊥) → AllByRecursion OnlyOff (done ++ p ∷ []) → ⊥
mixed [] p h k = h k.0
mixed (q ∷ done) p h k = mixed done p h k.1

mixed_more : (done : List Placing) (p : Placing) → (AllByRecursion OnlyOff done → ⊥) → AllByRecursion OnlyOff (done ++ p ∷ []) → ⊥
mixed_more [] p h k = h tt
mixed_more (q ∷ done) p h k = h (front (q ∷ done) p k)
  where
    front : (xs : List Placing) (p : Placing) → AllByRecursion OnlyOff (xs ++ p ∷ []) → AllByRecursion OnlyOff xs
    front [] p k = tt
    front (x ∷ xs) p k = (k.0, front xs p k.1)

no_more_off : (done ps : List Placing) → InTurn done ps → (AllByRecursion OnlyOff done → ⊥) → AllByRecursion NoOff ps
no_more_off done [] t h = tt
no_more_off done (on n p ∷ ps) t h = (tt, no_more_off (done ++ on n p ∷ []) ps t.1 (mixed_more done (on n p) h))
no_more_off done (off n k ∷ ps) t h = absurd (h t.1)
no_more_off done (in_hand c k ∷ ps) t h = (tt, no_more_off (done ++ in_hand c k ∷ []) ps t (mixed_more done (in_hand c k) h))
no_more_off done (rest c ∷ ps) t h = (tt, no_more_off (done ++ rest c ∷ []) ps t (mixed_more done (rest c) h))

none_off : (m : ℕ) (ps : List Placing) → AllByRecursion NoOff ps → filter_map (off_at m) ps ≡ []
none_off m [] h = refl
none_off m (on n p ∷ ps) h = none_off m ps h.1
none_off m (off n k ∷ ps) h = absurd h.0
none_off m (in_hand c k ∷ ps) h = none_off m ps h.1
none_off m (rest c ∷ ps) h = none_off m ps h.1

-- if there is at most one, it is alone
alone : (xs ys : List Piece) (p : Piece) (zs : List Piece) (o : Option Piece) → xs ++ (ys ++ p ∷ zs) ≡ option_to_list o → xs ++ ys ≡ []
alone [] [] p zs o h = refl
alone [] (y ∷ []) p zs None h = cc
alone [] (y ∷ []) p zs (Some q) h = let rest : p ∷ zs ≡ [] = cc in cc
alone [] (y ∷ z ∷ ys) p zs None h = cc
alone [] (y ∷ z ∷ ys) p zs (Some q) h = let rest : z ∷ (ys ++ p ∷ zs) ≡ [] = cc in cc
alone (x ∷ xs) ys p zs None h = cc
alone (x ∷ xs) ys p zs (Some q) h = let rest : xs ++ (ys ++ p ∷ zs) ≡ [] = cc in absurd (never xs ys p zs rest)
  where
    never : (xs ys : List Piece) (p : Piece) (zs : List Piece) → xs ++ (ys ++ p ∷ zs) ≡ [] → ⊥
    never [] [] p zs h = cc
    never [] (y ∷ ys) p zs h = cc
    never (x ∷ xs) ys p zs h = cc

no_list : (o : Option Piece) → option_to_list o ≡ [] → o ≡ None
no_list None h = refl
no_list (Some p) h = cc

puts_mid : (n : ℕ) (p : Piece) (done ps : List Placing) → filter_map (put_on n) (done ++ on n p ∷ ps) ≡ filter_map (put_on n) done ++ p ∷ filter_map (put_on n) ps
puts_mid n p done ps =
    filter_map-append (put_on n) done (on n p ∷ ps) ∙ ap (λ xs. filter_map (put_on n) done ++ xs) (here (eq-self n n refl))
  where
    here : (n == n) ≡ true → filter_map (put_on n) (on n p ∷ ps) ≡ p ∷ filter_map (put_on n) ps
    here h = rw h refl

empty_before : (first : Cells) (done ps : List Placing) (s u : Layout) (n : ℕ) (p : Piece) → IsUnion first done s → IsUnion first (done ++ on n p ∷ ps) u → n < 81 → AllByRecursion NoOff ps → get_or s.material.board n None ≡ None
empty_before first done ps s u n p a b low none =
    let offs : filter_map (off_at n) (done ++ on n p ∷ ps) ≡ filter_map (off_at n) done
    = filter_map-append (off_at n) done (on n p ∷ ps) ∙ (ap (λ ks. filter_map (off_at n) done ++ ks) (none_off n ps none) ∙ append-nil (filter_map (off_at n) done)) in
    let all : left_on (get_or first n None) (filter_map (off_at n) done) ++ (filter_map (put_on n) done ++ p ∷ filter_map (put_on n) ps) ≡ option_to_list (get_or u.material.board n None)
    = sym (ap (λ ks. left_on (get_or first n None) ks ++ filter_map (put_on n) (done ++ on n p ∷ ps)) offs
    ∙ ap (λ xs. left_on (get_or first n None) (filter_map (off_at n) done) ++ xs) (puts_mid n p done ps)) ∙ b.cells n low in
    no_list (get_or s.material.board n None)
    (sym (a.cells n low) ∙ alone (left_on (get_or first n None) (filter_map (off_at n) done)) (filter_map (put_on n) done) p (filter_map (put_on n) ps) (get_or u.material.board n None) all)

-- a kind that may be taken off is still there
only_one : (cell : Option Piece) (xs : List Kind) (k : Kind) (ys : List Kind) → MayTakeOff cell (xs ++ k ∷ ys) → (xs ≡ []) × (holds k cell ≡ true)
only_one cell [] k [] h = (refl, h)
only_one cell [] k (y ∷ ys) h = absurd h
only_one cell (x ∷ []) k ys h = absurd h
only_one cell (x ∷ z ∷ xs) k ys h = absurd h

offs_mid : (n : ℕ) (k : Kind) (done ps : List Placing) → filter_map (off_at n) (done ++ off n k ∷ ps) ≡ filter_map (off_at n) done ++ k ∷ filter_map (off_at n) ps
offs_mid n k done ps =
    filter_map-append (off_at n) done (off n k ∷ ps) ∙ ap (λ xs. filter_map (off_at n) done ++ xs) (here (eq-self n n refl))
  where
    here : (n == n) ≡ true → filter_map (off_at n) (off n k ∷ ps) ≡ k ∷ filter_map (off_at n) ps
    here h = rw h refl

same_option : (a b : Option Piece) → option_to_list a ++ [] ≡ option_to_list b → a ≡ b
same_option None None e = refl
same_option None (Some y) e = cc
same_option (Some x) None e = cc
same_option (Some x) (Some y) e = let same : x ≡ y = cc in ap Some same

held_before : (first : Cells) (done ps : List Placing) (s u : Layout) (n : ℕ) (k : Kind) → IsUnion first done s → IsUnion first (done ++ off n k ∷ ps) u → n < 81 → AllByRecursion OnlyOff done → holds k (get_or s.material.board n None) ≡ true
held_before first done ps s u n k a b low only =
    let taken : MayTakeOff (get_or first n None) (filter_map (off_at n) done ++ k ∷ filter_map (off_at n) ps)
    = subst (λ ks. MayTakeOff (get_or first n None) ks) (offs_mid n k done ps) (b.taken n) in
    let one = only_one (get_or first n None) (filter_map (off_at n) done) k (filter_map (off_at n) ps) taken in
    let cell : option_to_list (get_or first n None) ++ [] ≡ option_to_list (get_or s.material.board n None)
    = sym (ap (λ ks. left_on (get_or first n None) ks ++ filter_map (put_on n) done) one.0
    ∙ ap (λ xs. option_to_list (get_or first n None) ++ xs) (none_put n done only)) ∙ a.cells n low in
    ap (holds k) (sym (same_option (get_or first n None) (get_or s.material.board n None) cell)) ∙ one.1

-- a part of a list for all of which something holds
mid_held : (done : List Placing) (p : Placing) (ps : List Placing) → AllByRecursion MayBeHeld (done ++ p ∷ ps) → MayBeHeld p
mid_held [] p ps h = h.0
mid_held (q ∷ done) p ps h = mid_held done p ps h.1

nothing_after : (done : List Placing) (c : Color) (ps : List Placing) → filter_map rest_given done ≡ [] → RestIsLast (done ++ rest c ∷ ps) → ps ≡ []
nothing_after [] c ps none h = h
nothing_after (on n p ∷ done) c ps none h = nothing_after done c ps none h
nothing_after (off n k ∷ done) c ps none h = nothing_after done c ps none h
nothing_after (in_hand d k ∷ done) c ps none h = nothing_after done c ps none h
nothing_after (rest d ∷ done) c ps none h = cc

-- totals grow
abbrev total_of : Layout → Kind → ℕ
total_of s k = total s.material k

record Grows (s t : Layout) : Type 0 where
  totals : (k : Kind) → total_of s k ≤ total_of t k
  kings : (c : Color) → kings_of s.material.board c ≤ kings_of t.material.board c

put_kings : (cells : Cells) (i : ℕ) (p : Piece) (c : Color) → i < length cells → get_or cells i None ≡ None → kings_of (set cells i (Some p)) c ≡ kings_of cells c + cond (same_color p.color c && is_king p.kind) 1 0
put_kings cells i p c low empty =
    let step = sum_by-set (λ x. cond (is_king_of c x) 1 0) cells i (Some p) None low in
    let e : kings_of (set cells i (Some p)) c + 0 ≡ kings_of cells c + cond (same_color p.color c && is_king p.kind) 1 0 = rw empty at step in
    omega (arith, e)

bag_grows : (bag : List ℕ) (k : Kind) (j : ℕ) → length bag ≡ 7 → kinds.is_hand_kind k ≡ true → slice_index bag j ≤ slice_index (one_more bag k) j
bag_grows bag k j seven held =
    elim (cases_Bool (place_of k == j)) [
      | inl hit ↦
          let same : place_of k ≡ j = eqb-true (place_of k) j hit in
          let count : count_in bag k ≡ slice_index bag (place_of k) = rw held refl in
          let now : slice_index (one_more bag k) (place_of k) ≡ count_in bag k + 1 = get_or-set_same bag (place_of k) (count_in bag k + 1) 0 (omega (arith, held-low k held, seven)) in
          subst (λ i. slice_index bag i ≤ slice_index (one_more bag k) i) same (omega (arith, count, now))
      | inr miss ↦
          let other : j ≢ place_of k = λ e. eqb-false (place_of k) j miss (sym e) in
          let same : slice_index (one_more bag k) j ≡ slice_index bag j = get_or-set_other bag (place_of k) j (count_in bag k + 1) 0 other in
          omega (arith, same)
    ]

bag_gains : (bag : List ℕ) (k : Kind) → length bag ≡ 7 → kinds.is_hand_kind k ≡ true → slice_index (one_more bag k) (place_of k) ≡ slice_index bag (place_of k) + 1
bag_gains bag k seven held =
    let count : count_in bag k ≡ slice_index bag (place_of k) = rw held refl in
    let now : slice_index (one_more bag k) (place_of k) ≡ count_in bag k + 1 = get_or-set_same bag (place_of k) (count_in bag k + 1) 0 (omega (arith, held-low k held, seven)) in
    omega (arith, count, now)

king_test : (b : Bool) (n : ℕ) → (b ≡ true → n ≡ 0) → (b && nat_lt 0 n) ≡ false
king_test true n h = rw (h refl) refl
king_test false n h = refl

fine_on : (s u : Layout) (n : ℕ) (p : Piece) → s.rest_given ≡ false → n < length s.material.board → get_or s.material.board n None ≡ None → Grows (placed s (on n p)) u → IsWithinTotals u.material → placing_fault s (on n p) ≡ None
fine_on s u n p free low empty grows within =
    let gained = put-total s.material n p.color p.kind p.kind low empty in
    let itself : ◌≡◌ {A = ℕ} (cond (place_of p.kind == place_of p.kind) 1 0) 1 = rw (eq-self (place_of p.kind) (place_of p.kind) refl) refl in
    let room : total_of s p.kind < limit p.kind = omega (arith, gained, itself, grows.totals p.kind, within.totals p.kind) in
    let full : nat_le (limit p.kind) (total_of s p.kind) ≡ false = lt-leb _ _ room in
    let lone : is_king p.kind ≡ true → kings_of s.material.board p.color ≡ 0 = λ h.
    let more = put_kings s.material.board n p p.color low empty in
    let one : ◌≡◌ {A = ℕ} (cond (same_color p.color p.color && is_king p.kind) 1 0) 1 = rw (same_color-self p.color, h) refl in
    omega (arith, more, one, grows.kings p.color, within.kings p.color) in
    rw (free, empty, king_test (is_king p.kind) (kings_of s.material.board p.color) lone, full) refl

less_on : (s u : Layout) (n : ℕ) (p : Piece) → n < length s.material.board → get_or s.material.board n None ≡ None → Grows (placed s (on n p)) u → Grows s u
less_on s u n p low empty grows = record {
  totals = λ k. omega (arith, put-total s.material n p.color p.kind k low empty, grows.totals k);
  kings = λ c. omega (arith, put_kings s.material.board n p c low empty, grows.kings c);
}

less_hand : (s u : Layout) (c : Color) (k : Kind) → length s.material.black ≡ 7 → length s.material.white ≡ 7 → kinds.is_hand_kind k ≡ true → Grows (placed s (in_hand c k)) u → Grows s u
less_hand s u Black k b w held grows = record {
  totals = λ j. omega (arith, bag_grows s.material.black k (place_of j) b held, grows.totals j);
  kings = grows.kings;
}
less_hand s u White k b w held grows = record {
  totals = λ j. omega (arith, bag_grows s.material.white k (place_of j) w held, grows.totals j);
  kings = grows.kings;
}

gain_hand : (s : Layout) (c : Color) (k : Kind) → length s.material.black ≡ 7 → length s.material.white ≡ 7 → kinds.is_hand_kind k ≡ true → total_of (placed s (in_hand c k)) k ≡ total_of s k + 1
gain_hand s Black k b w held = omega (arith, bag_gains s.material.black k b held)
gain_hand s White k b w held = omega (arith, bag_gains s.material.white k w held)

fine_hand : (s u : Layout) (c : Color) (k : Kind) → s.rest_given ≡ false → length s.material.black ≡ 7 → length s.material.white ≡ 7 → kinds.is_hand_kind k ≡ true → Grows (placed s (in_hand c k)) u → IsWithinTotals u.material → placing_fault s (in_hand c k) ≡ None
fine_hand s u c k free b w held grows within =
    let room : total_of s k < limit k = omega (arith, gain_hand s c k b w held, grows.totals k, within.totals k) in
    let full : nat_le (limit k) (total_of s k) ≡ false = lt-leb _ _ room in
    rw (free, held, full) refl

-- all can be placed, and no total shrinks
record Placeable (s u : Layout) (ps : List Placing) : Type 0 where
  all : place_all s ps ≡ Ok (with_rest_given (filter_map rest_given ps) u)
  grows : AllByRecursion NoOff ps → Grows s u

same_grows : (s u : Layout) → s ≡ u → Grows s u
same_grows s u e = record { totals = λ k. subst (λ t. total_of s k ≤ total_of t k) e (omega arith); kings = λ c. subst (λ t. kings_of s.material.board c ≤ kings_of t.material.board c) e (omega arith) }

union_placed : (first : Cells) (done ps : List Placing) (s u : Layout) → IsUnion first done s → filter_map rest_given done ≡ [] → InTurn done ps → IsUnion first (done ++ ps) u → IsWithinTotals u.material → Placeable s u ps
union_placed first done [] s u a none turn b within =
    let same : s ≡ u = union_once first done s u a (subst (λ all. IsUnion first all u) (append-nil done) b) in
    record { all = ap Ok same; grows = λ h. same_grows s u same }
union_placed first done (on n p ∷ ps) s u a none turn b within =
    let no_off = no_more_off (done ++ on n p ∷ []) ps turn.1 (mixed done (on n p) (λ h. h)) in
    let empty = empty_before first done ps s u n p a b turn.0 no_off in
    let low : n < length s.material.board = omega (arith, turn.0, a.squares) in
    let next = union_placed first (done ++ on n p ∷ []) ps (placed s (on n p)) u (step_on first done s n p a none turn.0 empty) (rests_more done (on n p) none refl) turn.1
    (subst (λ all. IsUnion first all u) (sym (append_assoc done (on n p ∷ []) ps)) b) within in
    let grows = next.grows no_off in
    record {
      all = ap (λ f. unless f (place_all (placed s (on n p)) ps)) (fine_on s u n p a.no_rest low empty grows within) ∙ next.all;
      grows = λ h. less_on s u n p low empty grows;
    }
union_placed first done (off n k ∷ ps) s u a none turn b within =
    let held = held_before first done ps s u n k a b turn.0 turn.1 in
    let next = union_placed first (done ++ off n k ∷ []) ps (placed s (off n k)) u (step_off first done s n k a turn.1 none turn.0 held) (rests_more done (off n k) none refl) turn.2
    (subst (λ all. IsUnion first all u) (sym (append_assoc done (off n k ∷ []) ps)) b) within in
    let fine : placing_fault s (off n k) ≡ None = rw (a.no_rest, held) refl in
    record {
      all = ap (λ f. unless f (place_all (placed s (off n k)) ps)) fine ∙ next.all;
      grows = λ h. absurd h.0;
    }
union_placed first done (in_hand c k ∷ ps) s u a none turn b within =
    let no_off = no_more_off (done ++ in_hand c k ∷ []) ps turn (mixed done (in_hand c k) (λ h. h)) in
    let held : kinds.is_hand_kind k ≡ true = mid_held done (in_hand c k) ps b.held in
    let black : length s.material.black ≡ 7 = ap length a.black in
    let white : length s.material.white ≡ 7 = ap length a.white in
    let next = union_placed first (done ++ in_hand c k ∷ []) ps (placed s (in_hand c k)) u (step_hand first done s c k a none held) (rests_more done (in_hand c k) none refl) turn
    (subst (λ all. IsUnion first all u) (sym (append_assoc done (in_hand c k ∷ []) ps)) b) within in
    let grows = next.grows no_off in
    record {
      all = ap (λ f. unless f (place_all (placed s (in_hand c k)) ps)) (fine_hand s u c k a.no_rest black white held grows within) ∙ next.all;
      grows = λ h. less_hand s u c k black white held grows;
    }
union_placed first done (rest c ∷ ps) s u a none turn b within =
    let end : ps ≡ [] = nothing_after done c ps none b.rest_last in
    let whole : IsUnion first (done ++ rest c ∷ []) u = subst (λ qs. IsUnion first (done ++ rest c ∷ qs) u) end b in
    let same : s ≡ u = union_once first (done ++ rest c ∷ []) s u (step_rest first done s c a none) whole in
    let fine : placing_fault s (rest c) ≡ None = rw a.no_rest refl in
    subst (λ qs. Placeable s u (rest c ∷ qs)) (sym end)
    (record { all = ap (λ f. unless f (Ok (rest_to s c))) fine ∙ ap (λ t. Ok (rest_to t c)) same; grows = λ h. same_grows s u same })

pub union_is_placed : (first : Cells) (ps : List Placing) (s u : Layout) → IsUnion first [] s → InTurn [] ps → IsUnion first ps u → IsWithinTotals u.material → place_all s ps ≡ Ok (with_rest_given (filter_map rest_given ps) u)
union_is_placed first ps s u a turn b within = (union_placed first [] ps s u a refl turn b within).all
