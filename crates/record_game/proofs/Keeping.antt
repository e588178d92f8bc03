-- What is kept with one more item.
use Rattle.std.proofs.Common.{◌≡◌, ◌⊎◌, ℕ, ◌==◌, Bool, true, false, List, [], ◌∷◌, ◌++◌, map, Option, Some, None, refl, sym, ap, ◌∙◌, append_assoc, subst, inl, inr}
use Rattle.std.specs.Prelude.{drop, filter, is_some}
use Rattle.std.specs.List.{filter_map}
use Rattle.std.specs.Option.{option_to_list}
use Rattle.std.proofs.lemmas.List.{append-nil}
use Rattle.std.proofs.lemmas.List.Elements.{filter-append, filter_map-append}
use Rattle.shogi_board.specs.declared.color.Color.{Color}
use Rattle.shogi_board.specs.declared.color.Color.TheVariants.{Black, White}
use Rattle.shogi_board.specs.declared.kind.Piece.{Piece}
use Rattle.shogi_board.specs.Setup.{position_of}
use Rattle.shogi_board.specs.declared.moves.Move.{Move}
use Rattle.shogi_rules.specs.Positions.{position_after}
use Rattle.csa_text.specs.declared.ending.Ending.{Ending}
use Rattle.csa_text.specs.declared.pair.Pair.{Pair}
use Rattle.csa_text.specs.Saying.{Saying, version, name, header, even, rank, pieces, turn, walked, time, ending}
use Rattle.record_game.specs.Course.{Course, awaits_time, awaits_after_it, with_time, with_last_time}
use Rattle.record_game.specs.Game.{Ended, Entry, move_of}
use Rattle.record_game.specs.Items.{is_version, name_given, names, header_given, headers, is_even, rank_given, ranks, is_position, positions, is_body, body, AtMostOne}
use Rattle.record_game.specs.Keeping.{Stage, laying, playing, Kept, HasKept, KeepsStage}
use Rattle.record_game.specs.Laying.{Laid, Lays}
use Rattle.record_game.specs.Order.{stands}
use Rattle.shogi_board.specs.Placing.{place_all, board_alone}
use Rattle.record_game.specs.LaidOut.{laid_out}
use Rattle.record_game.specs.Placings.{placings}
use Rattle.record_game.specs.Says.{AreEntries, RanksOnce, move_items, ending_items}
use Rattle.record_game.specs.Titles.{Titled, with_name, IsWithHeader}
use Rattle.record_game.specs.Union.{first_board}
use Rattle.record_game.proofs.Headers.{header_more}
use Rattle.record_game.proofs.Played.{with_move, with_time_of_move, with_time_of_ending}

-- lists with one more element
stands_more : {X : Type 0} (xs : List X) (x : X) → true ≡ stands (xs ++ x ∷ [])
stands_more [] x = refl
stands_more (y ∷ xs) x = refl

pub nothing_stands : {X : Type 0} (xs : List X) → stands xs ≡ false → xs ≡ []
nothing_stands [] h = refl
nothing_stands (x ∷ xs) h = cc

first_more : (p : Saying → Bool) (xs : List Saying) (s : Saying) → filter p (drop 1 xs) ≡ [] → filter p (s ∷ []) ≡ [] → filter p (drop 1 (xs ++ s ∷ [])) ≡ []
first_more p [] s h k = refl
first_more p (x ∷ xs) s h k = filter-append p xs (s ∷ []) ∙ (ap (λ ys. ys ++ filter p (s ∷ [])) h ∙ k)

kept_filter : (p : Saying → Bool) (xs : List Saying) (s : Saying) → filter p (s ∷ []) ≡ [] → filter p (xs ++ s ∷ []) ≡ filter p xs
kept_filter p xs s h = filter-append p xs (s ∷ []) ∙ (ap (λ ys. filter p xs ++ ys) h ∙ append-nil (filter p xs))

kept_choice : {Y : Type 0} (f : Saying → Option Y) (xs : List Saying) (s : Saying) → filter_map f (s ∷ []) ≡ [] → filter_map f (xs ++ s ∷ []) ≡ filter_map f xs
kept_choice f xs s h = filter_map-append f xs (s ∷ []) ∙ (ap (λ ys. filter_map f xs ++ ys) h ∙ append-nil (filter_map f xs))

-- an item that does not belong to the start
record IsNoPosition (s : Saying) : Type 0 where
  positions : positions (s ∷ []) ≡ []
  evens : filter is_even (s ∷ []) ≡ []
  ranks : ranks (s ∷ []) ≡ []

-- an item of the body
record IsOfBody (s : Saying) : Type 0 where
  version : filter is_version (s ∷ []) ≡ []
  names : (side : Color) → names side (s ∷ []) ≡ []
  headers : headers (s ∷ []) ≡ []
  body : body (s ∷ []) ≡ s ∷ []

same_laid : (a b : List Saying) → positions a ≡ positions b → laid_out a ≡ laid_out b
same_laid a b h = ap (λ ps. place_all (board_alone (first_board ps)) (placings ps)) h

same_lays : (a b : List Saying) (l : Laid) → positions b ≡ positions a → filter is_even b ≡ filter is_even a → ranks b ≡ ranks a → Lays a l → Lays b l
same_lays a b l p q r h = record {
  laid = same_laid b a p ∙ h.laid;
  positioned = h.positioned ∙ ap stands (sym p);
  even = h.even ∙ ap stands (sym q);
  ranks = λ number low high. h.ranks number low high ∙ ap (λ ns. stands (filter (λ n. n == number) ns)) (sym r);
}

-- a head item leaves the stage unchanged
same_stage : (before : List Saying) (s : Saying) (g : Stage) → IsNoPosition s → body (s ∷ []) ≡ [] → KeepsStage before g → KeepsStage (before ++ s ∷ []) g
same_stage before s (laying l) off none (lays, all) =
    let ps = kept_filter is_position before s off.positions in (
      same_lays before (before ++ s ∷ []) l ps (kept_filter is_even before s off.evens) (kept_choice rank_given before s off.ranks) lays,
      kept_filter is_body before s none ∙ (all ∙ sym ps),
    )
same_stage before s (playing c) off none (layout, laid, start, all) =
    let ps = kept_filter is_position before s off.positions in (
      layout,
      same_laid (before ++ s ∷ []) before ps ∙ laid,
      start,
      kept_filter is_body before s none ∙ (all ∙ ap (λ xs. xs ++ turn c.start.side ∷ (move_items c.start.side c.moves ++ ending_items c.ending)) (sym ps)),
    )

-- one more version, name or header
with_head : (before : List Saying) (s : Saying) (k : Kept) (t : Titled) → IsNoPosition s → body (s ∷ []) ≡ [] → filter is_version (drop 1 (before ++ s ∷ [])) ≡ []
    → names Black (before ++ s ∷ []) ≡ option_to_list t.black → names White (before ++ s ∷ []) ≡ option_to_list t.white → AreEntries (headers (before ++ s ∷ [])) t.headers
    → HasKept before k → HasKept (before ++ s ∷ []) (record { begun = true; titles = t; stage = k.stage })
with_head before s k t off none first black white entries h =
    let ps = kept_filter is_position before s off.positions in
    let es = kept_filter is_even before s off.evens in
    let rs = kept_choice rank_given before s off.ranks in
    record {
      begun = stands_more before s;
      version_first = first;
      black = black;
      white = white;
      headers = entries;
      even_first = ap (λ xs. filter is_even (drop 1 xs)) ps ∙ h.even_first;
      even_or_ranks = subst (λ xs. (xs ≡ []) ⊎ (ranks (before ++ s ∷ []) ≡ [])) (sym es) (subst (λ ns. (filter is_even before ≡ []) ⊎ (ns ≡ [])) (sym rs) h.even_or_ranks);
      ranks_once = λ number. subst (λ ns. AtMostOne (filter (λ n. n == number) ns)) (sym rs) (h.ranks_once number);
      stage = same_stage before s k.stage off none h.stage;
    }

pub with_version : (before : List Saying) (k : Kept) → stands before ≡ false → HasKept before k → HasKept (before ++ version ∷ []) (record k { begun = true })
with_version before k none h =
    let empty = nothing_stands before none in
    with_head before version k k.titles (record { positions = refl; evens = refl; ranks = refl }) refl
    (ap (λ xs. filter is_version (drop 1 (xs ++ version ∷ []))) empty)
    (kept_choice (name_given Black) before version refl ∙ h.black) (kept_choice (name_given White) before version refl ∙ h.white)
    (subst (λ hs. AreEntries hs k.titles.headers) (sym (kept_choice header_given before version refl)) h.headers) h

-- a name, if that side has none
one_name : (before : List Saying) (s : Saying) (side : Color) (o : Option (List ℕ)) (text : List ℕ) → names side before ≡ option_to_list o → is_some o ≡ false → names side (s ∷ []) ≡ text ∷ [] → names side (before ++ s ∷ []) ≡ text ∷ []
one_name before s side None text h none given = filter_map-append (name_given side) before (s ∷ []) ∙ (ap (λ ns. ns ++ names side (s ∷ [])) h ∙ given)
one_name before s side (Some t) text h none given = cc

pub with_name_kept : (before : List Saying) (k : Kept) (color : Color) (text : List ℕ) (b : ℕ) (bs : List ℕ) → text ≡ b ∷ bs
    → (color ≡ Black → is_some k.titles.black ≡ false) → (color ≡ White → is_some k.titles.white ≡ false)
    → HasKept before k → HasKept (before ++ name color text ∷ []) (record k { begun = true; titles = with_name k.titles color text })
with_name_kept before k Black [] b bs is one other h = cc
with_name_kept before k White [] b bs is one other h = cc
with_name_kept before k Black (c ∷ cs) b bs is one other h =
    let s = name Black (c ∷ cs) in
    with_head before s k (with_name k.titles Black (c ∷ cs)) (record { positions = refl; evens = refl; ranks = refl }) refl
    (first_more is_version before s h.version_first refl)
    (one_name before s Black k.titles.black (c ∷ cs) h.black (one refl) refl) (kept_choice (name_given White) before s refl ∙ h.white)
    (subst (λ hs. AreEntries hs k.titles.headers) (sym (kept_choice header_given before s refl)) h.headers) h
with_name_kept before k White (c ∷ cs) b bs is one other h =
    let s = name White (c ∷ cs) in
    with_head before s k (with_name k.titles White (c ∷ cs)) (record { positions = refl; evens = refl; ranks = refl }) refl
    (first_more is_version before s h.version_first refl)
    (kept_choice (name_given Black) before s refl ∙ h.black) (one_name before s White k.titles.white (c ∷ cs) h.white (other refl) refl)
    (subst (λ hs. AreEntries hs k.titles.headers) (sym (kept_choice header_given before s refl)) h.headers) h

pub with_no_name : (before : List Saying) (k : Kept) (color : Color) → HasKept before k → HasKept (before ++ name color [] ∷ []) (record k { begun = true })
with_no_name before k color h =
    let s = name color [] in
    with_head before s k k.titles (record { positions = refl; evens = refl; ranks = refl }) refl
    (first_more is_version before s h.version_first refl)
    (kept_choice (name_given Black) before s refl ∙ h.black) (kept_choice (name_given White) before s refl ∙ h.white)
    (subst (λ hs. AreEntries hs k.titles.headers) (sym (kept_choice header_given before s refl)) h.headers) h

pub with_no_header : (before : List Saying) (k : Kept) (key : List ℕ) → HasKept before k → HasKept (before ++ header key [] ∷ []) (record k { begun = true })
with_no_header before k key h =
    let s = header key [] in
    with_head before s k k.titles (record { positions = refl; evens = refl; ranks = refl }) refl
    (first_more is_version before s h.version_first refl)
    (kept_choice (name_given Black) before s refl ∙ h.black) (kept_choice (name_given White) before s refl ∙ h.white)
    (subst (λ hs. AreEntries hs k.titles.headers) (sym (kept_choice header_given before s refl)) h.headers) h

pub with_header : (before : List Saying) (k : Kept) (key : List ℕ) (b : ℕ) (bs : List ℕ) (t : Titled) → IsWithHeader k.titles key (b ∷ bs) t → HasKept before k → HasKept (before ++ header key (b ∷ bs) ∷ []) (record k { begun = true; titles = t })
with_header before k key b bs t (value, is_value, is) h =
    let s = header key (b ∷ bs) in
    let e : Entry = record { key = key; text = value } in
    let same : headers (before ++ s ∷ []) ≡ headers before ++ (key, b ∷ bs) ∷ [] = filter_map-append header_given before (s ∷ []) in
    with_head before s k t (record { positions = refl; evens = refl; ranks = refl }) refl
    (first_more is_version before s h.version_first refl)
    (kept_choice (name_given Black) before s refl ∙ (h.black ∙ ap (λ (u : Titled). option_to_list u.black) (sym is)))
    (kept_choice (name_given White) before s refl ∙ (h.white ∙ ap (λ (u : Titled). option_to_list u.white) (sym is)))
    (subst (λ hs. AreEntries hs t.headers) (sym same) (subst (λ (u : Titled). AreEntries (headers before ++ (key, b ∷ bs) ∷ []) u.headers) (sym is)
    (header_more (headers before) k.titles.headers (key, b ∷ bs) e h.headers refl is_value))) h

-- one more item of the body
with_body : (before : List Saying) (s : Saying) (k : Kept) (g : Stage) → IsOfBody s → filter is_even (drop 1 (positions (before ++ s ∷ []))) ≡ []
    → (filter is_even (before ++ s ∷ []) ≡ []) ⊎ (ranks (before ++ s ∷ []) ≡ []) → RanksOnce (before ++ s ∷ []) → KeepsStage (before ++ s ∷ []) g
    → HasKept before k → HasKept (before ++ s ∷ []) (record { begun = true; titles = k.titles; stage = g })
with_body before s k g of_body first either once stage h = record {
  begun = stands_more before s;
  version_first = first_more is_version before s h.version_first of_body.version;
  black = kept_choice (name_given Black) before s (of_body.names Black) ∙ h.black;
  white = kept_choice (name_given White) before s (of_body.names White) ∙ h.white;
  headers = subst (λ hs. AreEntries hs k.titles.headers) (sym (kept_choice header_given before s of_body.headers)) h.headers;
  even_first = first;
  even_or_ranks = either;
  ranks_once = once;
  stage = stage;
}

body_more : (before : List Saying) (s : Saying) → IsOfBody s → body (before ++ s ∷ []) ≡ body before ++ s ∷ []
body_more before s of_body = filter-append is_body before (s ∷ []) ∙ ap (λ ys. body before ++ ys) of_body.body

-- position statements
with_laid : (before : List Saying) (s : Saying) (k : Kept) (l m : Laid) → k.stage ≡ laying l → IsOfBody s → positions (s ∷ []) ≡ s ∷ [] → filter is_even (drop 1 (positions (before ++ s ∷ []))) ≡ []
    → (filter is_even (before ++ s ∷ []) ≡ []) ⊎ (ranks (before ++ s ∷ []) ≡ []) → RanksOnce (before ++ s ∷ []) → Lays (before ++ s ∷ []) m
    → HasKept before k → HasKept (before ++ s ∷ []) (record k { begun = true; stage = laying m })
with_laid before s k l m is of_body of_start first either once lays h =
    let now : KeepsStage before (laying l) = subst (KeepsStage before) is h.stage in
    let ps : positions (before ++ s ∷ []) ≡ positions before ++ s ∷ [] = filter-append is_position before (s ∷ []) ∙ ap (λ ys. positions before ++ ys) of_start in
    with_body before s k (laying m) of_body first either once
    (lays, body_more before s of_body ∙ (ap (λ xs. xs ++ s ∷ []) now.1 ∙ sym ps)) h

no_evens_in : (ss : List Saying) → positions ss ≡ [] → filter is_even ss ≡ []
no_evens_in [] h = refl
no_evens_in (version ∷ ss) h = no_evens_in ss h
no_evens_in (name c t ∷ ss) h = no_evens_in ss h
no_evens_in (header k t ∷ ss) h = no_evens_in ss h
no_evens_in (even ps ∷ ss) h = cc
no_evens_in (rank n cs ∷ ss) h = cc
no_evens_in (pieces c ps ∷ ss) h = cc
no_evens_in (turn c ∷ ss) h = no_evens_in ss h
no_evens_in (walked c m ∷ ss) h = no_evens_in ss h
no_evens_in (time t ∷ ss) h = no_evens_in ss h
no_evens_in (ending e ∷ ss) h = no_evens_in ss h

no_ranks_in : (ss : List Saying) → positions ss ≡ [] → ranks ss ≡ []
no_ranks_in [] h = refl
no_ranks_in (version ∷ ss) h = no_ranks_in ss h
no_ranks_in (name c t ∷ ss) h = no_ranks_in ss h
no_ranks_in (header k t ∷ ss) h = no_ranks_in ss h
no_ranks_in (even ps ∷ ss) h = cc
no_ranks_in (rank n cs ∷ ss) h = cc
no_ranks_in (pieces c ps ∷ ss) h = cc
no_ranks_in (turn c ∷ ss) h = no_ranks_in ss h
no_ranks_in (walked c m ∷ ss) h = no_ranks_in ss h
no_ranks_in (time t ∷ ss) h = no_ranks_in ss h
no_ranks_in (ending e ∷ ss) h = no_ranks_in ss h

pub with_even : (before : List Saying) (pairs : List Pair) (k : Kept) (l m : Laid) → k.stage ≡ laying l → stands (positions before) ≡ false → Lays (before ++ even pairs ∷ []) m → HasKept before k → HasKept (before ++ even pairs ∷ []) (record k { begun = true; stage = laying m })
with_even before pairs k l m is none lays h =
    let s = even pairs in
    let empty : positions before ≡ [] = nothing_stands (positions before) none in
    let ps : positions (before ++ s ∷ []) ≡ s ∷ [] = filter-append is_position before (s ∷ []) ∙ ap (λ xs. xs ++ s ∷ []) empty in
    let rs : ranks (before ++ s ∷ []) ≡ [] = kept_choice rank_given before s refl ∙ no_ranks_in before empty in
    with_laid before s k l m is (record { version = refl; names = λ side. refl; headers = refl; body = refl }) refl
    (ap (λ xs. filter is_even (drop 1 xs)) ps) (inr rs) (λ number. subst (λ ns. AtMostOne (filter (λ n. n == number) ns)) (sym rs) tt) lays h

-- a start without `PI`
no_even_first : (before : List Saying) (s : Saying) → filter is_even (drop 1 (positions before)) ≡ [] → filter is_even (s ∷ []) ≡ [] → positions (s ∷ []) ≡ s ∷ [] → filter is_even (drop 1 (positions (before ++ s ∷ []))) ≡ []
no_even_first before s first none of_start =
    ap (λ xs. filter is_even (drop 1 xs)) (filter-append is_position before (s ∷ []) ∙ ap (λ ys. positions before ++ ys) of_start)
    ∙ first_more is_even (positions before) s first none

once_by : (ns : List ℕ) (number other : ℕ) (b : Bool) → (number == other) ≡ b → AtMostOne (filter (λ n. n == other) ns) → ((number == other) ≡ true → filter (λ n. n == other) ns ≡ []) → AtMostOne (filter (λ n. n == other) ns ++ filter (λ n. n == other) (number ∷ []))
once_by ns number other true is once none = rw (none is, is) tt
once_by ns number other false is once none = rw is (subst AtMostOne (sym (append-nil (filter (λ n. n == other) ns))) once)

pub with_rank : (before : List Saying) (number : ℕ) (cells : List (Option Piece)) (k : Kept) (l m : Laid) → k.stage ≡ laying l → stands (filter is_even before) ≡ false
    → stands (filter (λ n. n == number) (ranks before)) ≡ false → ((other : ℕ) → (number == other) ≡ true → number ≡ other)
    → Lays (before ++ rank number cells ∷ []) m → HasKept before k → HasKept (before ++ rank number cells ∷ []) (record k { begun = true; stage = laying m })
with_rank before number cells k l m is none new same lays h =
    let s = rank number cells in
    let es : filter is_even (before ++ s ∷ []) ≡ [] = kept_filter is_even before s refl ∙ nothing_stands (filter is_even before) none in
    let rs : ranks (before ++ s ∷ []) ≡ ranks before ++ number ∷ [] = filter_map-append rank_given before (s ∷ []) in
    with_laid before s k l m is (record { version = refl; names = λ side. refl; headers = refl; body = refl }) refl
    (no_even_first before s h.even_first refl refl) (inl es)
    (λ other. subst (λ ns. AtMostOne (filter (λ n. n == other) ns)) (sym rs) (subst AtMostOne (sym (filter-append (λ n. n == other) (ranks before) (number ∷ [])))
    (once_by (ranks before) number other (number == other) refl (h.ranks_once other)
    (λ hit. subst (λ x. filter (λ n. n == x) (ranks before) ≡ []) (same other hit) (nothing_stands (filter (λ n. n == number) (ranks before)) new)))))
    lays h

pub with_pieces : (before : List Saying) (color : Color) (pairs : List Pair) (k : Kept) (l m : Laid) → k.stage ≡ laying l → Lays (before ++ pieces color pairs ∷ []) m → HasKept before k → HasKept (before ++ pieces color pairs ∷ []) (record k { begun = true; stage = laying m })
with_pieces before color pairs k l m is lays h =
    let s = pieces color pairs in
    let es = kept_filter is_even before s refl in
    let rs = kept_choice rank_given before s refl in
    with_laid before s k l m is (record { version = refl; names = λ side. refl; headers = refl; body = refl }) refl
    (no_even_first before s h.even_first refl refl)
    (subst (λ xs. (xs ≡ []) ⊎ (ranks (before ++ s ∷ []) ≡ [])) (sym es) (subst (λ ns. (filter is_even before ≡ []) ⊎ (ns ≡ [])) (sym rs) h.even_or_ranks))
    (λ number. subst (λ ns. AtMostOne (filter (λ n. n == number) ns)) (sym rs) (h.ranks_once number)) lays h

-- from the side to move on
after_start : (before : List Saying) (s : Saying) (k : Kept) (c : Course) → IsOfBody s → IsNoPosition s → KeepsStage (before ++ s ∷ []) (playing c) → HasKept before k → HasKept (before ++ s ∷ []) (record k { begun = true; stage = playing c })
after_start before s k c of_body off stage h =
    let ps = kept_filter is_position before s off.positions in
    let es = kept_filter is_even before s off.evens in
    let rs = kept_choice rank_given before s off.ranks in
    with_body before s k (playing c) of_body
    (ap (λ xs. filter is_even (drop 1 xs)) ps ∙ h.even_first)
    (subst (λ xs. (xs ≡ []) ⊎ (ranks (before ++ s ∷ []) ≡ [])) (sym es) (subst (λ ns. (filter is_even before ≡ []) ⊎ (ns ≡ [])) (sym rs) h.even_or_ranks))
    (λ number. subst (λ ns. AtMostOne (filter (λ n. n == number) ns)) (sym rs) (h.ranks_once number)) stage h

pub with_turn : (before : List Saying) (color : Color) (k : Kept) (l : Laid) (c : Course) → k.stage ≡ laying l → c ≡ record { start = position_of l.layout color; moves = []; ending = None } → HasKept before k → HasKept (before ++ turn color ∷ []) (record k { begun = true; stage = playing c })
with_turn before color k l c is is_course h =
    let s = turn color in
    let now : KeepsStage before (laying l) = subst (KeepsStage before) is h.stage in
    let ps = kept_filter is_position before s refl in
    let of_body : IsOfBody s = record { version = refl; names = λ side. refl; headers = refl; body = refl } in
    let begun : KeepsStage (before ++ s ∷ []) (playing (record { start = position_of l.layout color; moves = []; ending = None })) = (
      l.layout,
      same_laid (before ++ s ∷ []) before ps ∙ now.0.laid,
      refl,
      body_more before s of_body ∙ (ap (λ xs. xs ++ s ∷ []) now.1 ∙ ap (λ xs. xs ++ s ∷ []) (sym ps)),
    ) in
    after_start before s k c of_body (record { positions = refl; evens = refl; ranks = refl })
    (subst (λ d. KeepsStage (before ++ s ∷ []) (playing d)) (sym is_course) begun) h

-- one more item of what is played
played_more : (before : List Saying) (s : Saying) (k : Kept) (c d : Course) → k.stage ≡ playing c → IsOfBody s → IsNoPosition s → d.start ≡ c.start
    → move_items c.start.side d.moves ++ ending_items d.ending ≡ (move_items c.start.side c.moves ++ ending_items c.ending) ++ s ∷ []
    → HasKept before k → HasKept (before ++ s ∷ []) (record k { begun = true; stage = playing d })
played_more before s k c d is of_body off start items h =
    let now : KeepsStage before (playing c) = subst (KeepsStage before) is h.stage in
    let ps = kept_filter is_position before s off.positions in
    let layout = now.0 in
    let more : body (before ++ s ∷ []) ≡ positions (before ++ s ∷ []) ++ turn c.start.side ∷ (move_items c.start.side d.moves ++ ending_items d.ending)
    = body_more before s of_body ∙ (ap (λ xs. xs ++ s ∷ []) now.3 ∙ (append_assoc (positions before) _ (s ∷ [])
    ∙ (ap (λ xs. positions before ++ turn c.start.side ∷ xs) (sym items) ∙ ap (λ xs. xs ++ turn c.start.side ∷ (move_items c.start.side d.moves ++ ending_items d.ending)) (sym ps)))) in
    after_start before s k d of_body off (
      layout,
      same_laid (before ++ s ∷ []) before ps ∙ now.1,
      subst (λ p. p ≡ position_of layout p.side) (sym start) now.2,
      subst (λ (p : _). body (before ++ s ∷ []) ≡ positions (before ++ s ∷ []) ++ turn p.side ∷ (move_items p.side d.moves ++ ending_items d.ending)) (sym start) more,
    ) h

pub with_walked : (before : List Saying) (color : Color) (m : Move) (k : Kept) (c : Course) → k.stage ≡ playing c → c.ending ≡ None → color ≡ (position_after c.start (map move_of c.moves)).side
    → HasKept before k → HasKept (before ++ walked color m ∷ []) (record k { begun = true; stage = playing (record c { moves = c.moves ++ record { move = m; time = None } ∷ [] }) })
with_walked before color m k c is unended mover h =
    let d : Course = record c { moves = c.moves ++ record { move = m; time = None } ∷ [] } in
    let none : ending_items c.ending ≡ [] = ap ending_items unended in
    played_more before (walked color m) k c d is (record { version = refl; names = λ side. refl; headers = refl; body = refl }) (record { positions = refl; evens = refl; ranks = refl }) refl
    (ap (λ es. move_items c.start.side d.moves ++ es) none ∙ (append-nil (move_items c.start.side d.moves) ∙ (with_move c.start c.moves m
    ∙ (ap (λ side. move_items c.start.side c.moves ++ walked side m ∷ []) (sym mover)
    ∙ ap (λ es. es ++ walked color m ∷ []) (sym (ap (λ es. move_items c.start.side c.moves ++ es) none ∙ append-nil (move_items c.start.side c.moves))))))) h

pub with_ending : (before : List Saying) (e : Ending) (k : Kept) (c : Course) → k.stage ≡ playing c → c.ending ≡ None → HasKept before k → HasKept (before ++ ending e ∷ []) (record k { begun = true; stage = playing (record c { ending = Some (record { ending = e; time = None }) }) })
with_ending before e k c is unended h =
    let none : ending_items c.ending ≡ [] = ap ending_items unended in
    played_more before (ending e) k c (record c { ending = Some (record { ending = e; time = None }) }) is (record { version = refl; names = λ side. refl; headers = refl; body = refl }) (record { positions = refl; evens = refl; ranks = refl }) refl
    (ap (λ es. es ++ ending e ∷ []) (sym (ap (λ es. move_items c.start.side c.moves ++ es) none ∙ append-nil (move_items c.start.side c.moves)))) h

time_items_by : (side : Color) (c : Course) (o : Option Ended) (n : ℕ) → c.ending ≡ o → awaits_after_it c.moves o ≡ true
    → move_items side (with_time c n).moves ++ ending_items (with_time c n).ending ≡ (move_items side c.moves ++ ending_items c.ending) ++ time n ∷ []
time_items_by side c None n is can =
    rw is (append-nil (move_items side (with_last_time c.moves n)) ∙ (with_time_of_move side c.moves n can
    ∙ ap (λ xs. xs ++ time n ∷ []) (sym (append-nil (move_items side c.moves)))))
time_items_by side c (Some e) n is can =
    rw is (ap (λ xs. move_items side c.moves ++ xs) (with_time_of_ending e n can) ∙ sym (append_assoc (move_items side c.moves) (ending_items (Some e)) (time n ∷ [])))

same_start : (c : Course) (o : Option Ended) (n : ℕ) → c.ending ≡ o → (with_time c n).start ≡ c.start
same_start c None n is = rw is refl
same_start c (Some e) n is = rw is refl

pub with_time_kept : (before : List Saying) (n : ℕ) (k : Kept) (c : Course) → k.stage ≡ playing c → awaits_time c ≡ true → HasKept before k → HasKept (before ++ time n ∷ []) (record k { begun = true; stage = playing (with_time c n) })
with_time_kept before n k c is can h =
    played_more before (time n) k c (with_time c n) is (record { version = refl; names = λ side. refl; headers = refl; body = refl }) (record { positions = refl; evens = refl; ranks = refl })
    (same_start c c.ending n refl) (time_items_by c.start.side c c.ending n refl can) h

-- before the first item
pub nothing_kept : (l : Laid) → Lays [] l → HasKept [] (record { begun = false; titles = record { black = None; white = None; headers = [] }; stage = laying l })
nothing_kept l h = record { begun = refl; version_first = refl; black = refl; white = refl; headers = refl; even_first = refl; even_or_ranks = inl refl; ranks_once = λ number. tt; stage = (h, refl) }
