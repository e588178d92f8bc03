-- The canonical text of a game contains that game.
use Rattle.std.proofs.Common.{◌≡◌, ◌≢◌, ◌⊎◌, ℕ, true, false, List, [], ◌∷◌, ◌++◌, drop, filter, map, Option, Some, None, refl, sym, ap, ◌∙◌, append_assoc, arith, inl, inr}
use Rattle.std.specs.Prelude.{IfSome}
use Rattle.std.specs.List.{AllByRecursion}
use Rattle.std.specs.Option.{option_to_list}
use Rattle.std.proofs.lemmas.List.{append-nil}
use Rattle.std.proofs.lemmas.List.Elements.{filter_map-append, filter-append}
use Rattle.shogi_board.specs.declared.color.Color.{Color}
use Rattle.shogi_board.specs.declared.color.Color.TheVariants.{Black, White}
use Rattle.shogi_board.specs.Pieces.{opponent}
use Rattle.csa_cutting.specs.Cut.{Statements}
use Rattle.csa_text.specs.Moment.{CalendarMoment, TimeOfDay, moment_text}
use Rattle.csa_text.specs.Saying.{Saying, version, header, turn}
use Rattle.csa_text.proofs.Moments.{InDay, text_spelled}
use Rattle.record_game.specs.Game.{Game, Timed, Ended, Entry, HeaderText, moment, plain}
use Rattle.record_game.specs.Limits.{IsGame, IsName, IsEntry, IsInDay, MayStandUnder, IsTimed, EndsInTime}
use Rattle.record_game.specs.Items.{is_version, name_given, names, header_given, headers, is_even, rank_given, ranks, is_position, positions, is_body, body}
use Rattle.record_game.specs.Says.{Says, IsValue, AreEntries, time_items, move_items, ending_items, played_items}
use Rattle.record_game.specs.Tells.{Tells}
use Rattle.record_game.specs.Canon.{name_items, value_text, header_item, start_items, canon_items, canon}
use Rattle.record_game.proofs.Bytes.{all_joined}
use Rattle.record_game.proofs.Filtered.{AreBody, AreHead, none_of, all_of, nothing_of, no_versions, no_names, no_headers, no_positions, no_evens, no_ranks, no_body, all_body, positions_are_body}
use Rattle.record_game.proofs.ItemLines.{version_line, name_line, header_line, turn_line, walked_line, ending_line}
use Rattle.record_game.proofs.Lined.{IsItemLine, units_of, lines_cut, all_statements, units_spelt}
use Rattle.record_game.proofs.Starting.{IsStart, start_is}
use Rattle.record_game.proofs.TimeLines.{time_line}

-- the items of moves and of an ending, which are not position statements
abbrev pub IsPlayed : Saying → Type 0
IsPlayed s = (is_body s ≡ true) × (is_position s ≡ false) × (is_even s ≡ false) × (rank_given s ≡ None)

played_time : (t : Option ℕ) → AllByRecursion IsPlayed (time_items t)
played_time None = tt
played_time (Some t) = ((refl, refl, refl, refl), tt)

played_moves : (c : Color) (ts : List Timed) → AllByRecursion IsPlayed (move_items c ts)
played_moves c [] = tt
played_moves c (t ∷ ts) =
    ((refl, refl, refl, refl), all_joined IsPlayed (time_items t.time) (move_items (opponent c) ts) (played_time t.time) (played_moves (opponent c) ts))

played_ending : (e : Option Ended) → AllByRecursion IsPlayed (ending_items e)
played_ending None = tt
played_ending (Some e) = ((refl, refl, refl, refl), played_time e.time)

pub all_played : (g : Game) → AllByRecursion IsPlayed (played_items g)
all_played g = all_joined IsPlayed (move_items g.start.side g.moves) (ending_items g.ending) (played_moves g.start.side g.moves) (played_ending g.ending)

weaker : {X : Type 0} (P Q : X → Type 0) → ((x : X) → P x → Q x) → (xs : List X) → AllByRecursion P xs → AllByRecursion Q xs
weaker P Q f [] h = tt
weaker P Q f (x ∷ xs) h = (f x h.0, weaker P Q f xs h.1)

-- their lines
time_lines : (t : Option ℕ) → IsTimed t → AllByRecursion IsItemLine (time_items t)
time_lines None h = tt
time_lines (Some t) h = (time_line t h, tt)

move_lines : (c : Color) (ts : List Timed) → AllByRecursion (λ (t : Timed). IsTimed t.time) ts → AllByRecursion IsItemLine (move_items c ts)
move_lines c [] h = tt
move_lines c (t ∷ ts) h =
    (walked_line c t.move, all_joined IsItemLine (time_items t.time) (move_items (opponent c) ts) (time_lines t.time h.0) (move_lines (opponent c) ts h.1))

end_lines : (e : Option Ended) → EndsInTime e → AllByRecursion IsItemLine (ending_items e)
end_lines None h = tt
end_lines (Some e) h = (ending_line e.ending, time_lines e.time h)

name_lines : (c : Color) (o : Option (List ℕ)) → IfSome o IsName → AllByRecursion IsItemLine (name_items c o)
name_lines c None h = tt
name_lines c (Some text) h = (name_line c text h, tt)

header_lines : (es : List Entry) → AllByRecursion IsEntry es → AllByRecursion IsItemLine (map header_item es)
header_lines [] h = tt
header_lines (e ∷ es) h = (header_line e h.0, header_lines es h.1)

-- the two parts of the canonical items
abbrev heads : Game → List Saying
heads g = version ∷ (name_items Black g.black ++ (name_items White g.white ++ map header_item g.headers))

abbrev bodies : Game → List Saying
bodies g = start_items g.start ++ turn g.start.side ∷ played_items g

parts : (g : Game) → canon_items g ≡ heads g ++ bodies g
parts g =
    ap (λ ss. version ∷ ss) (sym (append_assoc (name_items Black g.black) (name_items White g.white ++ map header_item g.headers) (bodies g)
    ∙ ap (λ ss. name_items Black g.black ++ ss) (append_assoc (name_items White g.white) (map header_item g.headers) (bodies g))))

pub canon_lines : (g : Game) → IsGame g → AllByRecursion IsItemLine (canon_items g)
canon_lines g h = (
  version_line,
  all_joined IsItemLine (name_items Black g.black) _ (name_lines Black g.black h.black)
      (all_joined IsItemLine (name_items White g.white) _ (name_lines White g.white h.white)
      (all_joined IsItemLine (map header_item g.headers) _ (header_lines g.headers h.entries)
      (all_joined IsItemLine (start_items g.start) _ (start_is g.start h.sound.within).lines (
        turn_line g.start.side,
        all_joined IsItemLine (move_items g.start.side g.moves) (ending_items g.ending)
            (move_lines g.start.side g.moves h.times) (end_lines g.ending h.last_time),
      )))),
)

-- what the head items are
abbrev IsNameOrHeader : Saying → Type 0
IsNameOrHeader s = (is_version s ≡ false) × (is_body s ≡ false)

names_are : (c : Color) (o : Option (List ℕ)) → AllByRecursion IsNameOrHeader (name_items c o)
names_are c None = tt
names_are c (Some text) = ((refl, refl), tt)

headers_are : (es : List Entry) → AllByRecursion IsNameOrHeader (map header_item es)
headers_are [] = tt
headers_are (e ∷ es) = ((refl, refl), headers_are es)

heads_are : (g : Game) → AllByRecursion IsNameOrHeader (name_items Black g.black ++ (name_items White g.white ++ map header_item g.headers))
heads_are g =
    all_joined IsNameOrHeader (name_items Black g.black) (name_items White g.white ++ map header_item g.headers) (names_are Black g.black)
    (all_joined IsNameOrHeader (name_items White g.white) (map header_item g.headers) (names_are White g.white) (headers_are g.headers))

are_head : (g : Game) → AreHead (heads g)
are_head g = (refl, weaker IsNameOrHeader (λ s. is_body s ≡ false) (λ s h. h.1) _ (heads_are g))

are_body : (g : Game) → IsStart (start_items g.start) g.start → AreBody (bodies g)
are_body g s =
    all_joined (λ s. is_body s ≡ true) (start_items g.start) (turn g.start.side ∷ played_items g) (positions_are_body (start_items g.start) s.positions)
    (refl, weaker IsPlayed (λ s. is_body s ≡ true) (λ s h. h.0) (played_items g) (all_played g))

-- names
own_name : (c : Color) (o : Option (List ℕ)) → IfSome o IsName → names c (name_items c o) ≡ option_to_list o
own_name c None h = refl
own_name c (Some []) h = absurd (h.some refl)
own_name Black (Some (b ∷ bs)) h = refl
own_name White (Some (b ∷ bs)) h = refl

black_in_white : (o : Option (List ℕ)) → names Black (name_items White o) ≡ []
black_in_white None = refl
black_in_white (Some []) = refl
black_in_white (Some (b ∷ bs)) = refl

white_in_black : (o : Option (List ℕ)) → names White (name_items Black o) ≡ []
white_in_black None = refl
white_in_black (Some []) = refl
white_in_black (Some (b ∷ bs)) = refl

names_in_headers : (c : Color) (es : List Entry) → names c (map header_item es) ≡ []
names_in_headers c [] = refl
names_in_headers c (e ∷ es) = names_in_headers c es

names_joined : (c : Color) (xs ys zs ws : List Saying) → names c (xs ++ (ys ++ (zs ++ ws))) ≡ names c xs ++ (names c ys ++ (names c zs ++ names c ws))
names_joined c xs ys zs ws =
    filter_map-append (name_given c) xs (ys ++ (zs ++ ws)) ∙ ap (λ ns. names c xs ++ ns)
    (filter_map-append (name_given c) ys (zs ++ ws) ∙ ap (λ ns. names c ys ++ ns) (filter_map-append (name_given c) zs ws))

-- headers
headers_in_names : (c : Color) (o : Option (List ℕ)) → headers (name_items c o) ≡ []
headers_in_names c None = refl
headers_in_names c (Some text) = refl

moment_some : (m : CalendarMoment) (key : List ℕ) (ss : List Saying) → headers (header key (moment_text m) ∷ ss) ≡ (key, moment_text m) ∷ headers ss
moment_some m key ss = refl

plain_some : (key text : List ℕ) (ss : List Saying) → text ≢ [] → headers (header key text ∷ ss) ≡ (key, text) ∷ headers ss
plain_some key [] ss h = absurd (h refl)
plain_some key (b ∷ bs) ss h = refl

value_some : (key : List ℕ) (text : HeaderText) (ss : List Saying) → MayStandUnder key text → headers (header key (value_text text) ∷ ss) ≡ (key, value_text text) ∷ headers ss
value_some key (moment m) ss h = moment_some m key ss
value_some key (plain text) ss h = plain_some key text ss h.some

value_is : (key : List ℕ) (text : HeaderText) → MayStandUnder key text → IsValue key (value_text text) text
value_is key (moment m) h = (h.0, text_spelled m.time m.year m.month m.day (omega (arith, h.1.year)) h.1.day (day m.time h.1.time))
  where
    day : (t : Option TimeOfDay) → IsInDay t → InDay t
    day None k = k
    day (Some t) k = k
value_is key (plain text) h = (refl, h.no_moment)

entries_are : (es : List Entry) (ss : List Saying) → AllByRecursion IsEntry es → headers ss ≡ [] → AreEntries (headers (map header_item es ++ ss)) es
entries_are [] ss h none = rw none refl
entries_are (e ∷ es) ss h none =
    rw (value_some e.key e.text (map header_item es ++ ss) h.0.text)
    ([], e, es, refl, refl, value_is e.key e.text h.0.text, entries_are es ss h.1 none)

headers_joined : (xs ys zs : List Saying) → headers xs ≡ [] → headers ys ≡ [] → headers (xs ++ (ys ++ zs)) ≡ headers zs
headers_joined xs ys zs h k =
    filter_map-append header_given xs (ys ++ zs) ∙ (ap (λ hs. hs ++ headers (ys ++ zs)) h
    ∙ (filter_map-append header_given ys zs ∙ ap (λ hs. hs ++ headers zs) k))

-- the body
body_is : (g : Game) → IsStart (start_items g.start) g.start → body (canon_items g) ≡ bodies g
body_is g s =
    ap body (parts g) ∙ (filter-append is_body (heads g) (bodies g) ∙ (ap (λ ss. ss ++ body (bodies g)) (no_body (heads g) (are_head g)) ∙ all_body (bodies g) (are_body g s)))

played_no_positions : (g : Game) → positions (turn g.start.side ∷ played_items g) ≡ []
played_no_positions g = none_of is_position (played_items g) (weaker IsPlayed (λ s. is_position s ≡ false) (λ s h. h.1) (played_items g) (all_played g))

positions_is : (g : Game) → IsStart (start_items g.start) g.start → positions (canon_items g) ≡ start_items g.start
positions_is g s =
    ap positions (parts g) ∙ (filter-append is_position (heads g) (bodies g)
    ∙ (ap (λ ss. ss ++ positions (bodies g)) (no_positions (heads g) (are_head g))
    ∙ (filter-append is_position (start_items g.start) (turn g.start.side ∷ played_items g)
    ∙ (ap (λ ss. positions (start_items g.start) ++ ss) (played_no_positions g)
    ∙ (append-nil (positions (start_items g.start)) ∙ all_of is_position (start_items g.start) s.positions)))))

evens_is : (g : Game) → filter is_even (canon_items g) ≡ filter is_even (start_items g.start)
evens_is g =
    ap (filter is_even) (parts g) ∙ (filter-append is_even (heads g) (bodies g)
    ∙ (ap (λ ss. ss ++ filter is_even (bodies g)) (no_evens (heads g) (are_head g))
    ∙ (filter-append is_even (start_items g.start) (turn g.start.side ∷ played_items g)
    ∙ (ap (λ ss. filter is_even (start_items g.start) ++ ss) (none_of is_even (played_items g) (weaker IsPlayed (λ s. is_even s ≡ false) (λ s h. h.2) (played_items g) (all_played g)))
    ∙ append-nil (filter is_even (start_items g.start))))))

ranks_is : (g : Game) → ranks (canon_items g) ≡ ranks (start_items g.start)
ranks_is g =
    ap ranks (parts g) ∙ (filter_map-append rank_given (heads g) (bodies g)
    ∙ (ap (λ ss. ss ++ ranks (bodies g)) (no_ranks (heads g) (are_head g))
    ∙ (filter_map-append rank_given (start_items g.start) (turn g.start.side ∷ played_items g)
    ∙ (ap (λ ss. ranks (start_items g.start) ++ ss) (nothing_of rank_given (played_items g) (weaker IsPlayed (λ s. rank_given s ≡ None) (λ s h. h.3) (played_items g) (all_played g)))
    ∙ append-nil (ranks (start_items g.start))))))

versions_are : (g : Game) → IsStart (start_items g.start) g.start → filter is_version (drop 1 (canon_items g)) ≡ []
versions_are g s =
    let rest = name_items Black g.black ++ (name_items White g.white ++ map header_item g.headers) in
    ap (λ ss. filter is_version (drop 1 ss)) (parts g) ∙ (filter-append is_version rest (bodies g)
    ∙ (ap (λ ss. ss ++ filter is_version (bodies g)) (none_of is_version rest (weaker IsNameOrHeader (λ s. is_version s ≡ false) (λ s h. h.0) rest (heads_are g)))
    ∙ no_versions (bodies g) (are_body g s)))

either_is : (g : Game) → IsStart (start_items g.start) g.start → (filter is_even (canon_items g) ≡ []) ⊎ (ranks (canon_items g) ≡ [])
either_is g s =
    elim s.even_or_ranks [
      | inl none ↦ inl (evens_is g ∙ none)
      | inr none ↦ inr (ranks_is g ∙ none)
    ]

pub says_game : (g : Game) → IsGame g → Says (canon_items g) g
says_game g h =
    let s = start_is g.start h.sound.within in
    let position = positions_is g s in
    let no_more = no_names Black (bodies g) (are_body g s) in
    let none_more = no_names White (bodies g) (are_body g s) in
    record {
      version_first = versions_are g s;
      black =
          names_joined Black (name_items Black g.black) (name_items White g.white) (map header_item g.headers) (bodies g)
          ∙ rw (own_name Black g.black h.black, black_in_white g.white, names_in_headers Black g.headers, no_more) (append-nil (option_to_list g.black));
      white =
          names_joined White (name_items Black g.black) (name_items White g.white) (map header_item g.headers) (bodies g)
          ∙ rw (white_in_black g.black, own_name White g.white h.white, names_in_headers White g.headers, none_more) (append-nil (option_to_list g.white));
      headers =
          rw (headers_joined (name_items Black g.black) (name_items White g.white) (map header_item g.headers ++ bodies g) (headers_in_names Black g.black) (headers_in_names White g.white))
          (entries_are g.headers (bodies g) h.entries (no_headers (bodies g) (are_body g s)));
      even_first = rw position s.even_first;
      even_or_ranks = either_is g s;
      ranks_once = rw (ranks_is g) s.ranks_once;
      start = rw position s.gives;
      in_order = body_is g s ∙ ap (λ ss. ss ++ turn g.start.side ∷ played_items g) (sym position);
      game = h;
    }

pub canon_tells_lem : (g : Game) → IsGame g → Tells (canon g) g
canon_tells_lem g h =
    let lines = canon_lines g h in
    let cut : Statements 0 (canon g) (units_of 0 (canon_items g)) = record {
      units = units_of 0 (canon_items g);
      cut = lines_cut 0 [] (canon_items g) tt lines;
      kept = all_statements 0 (canon_items g) lines;
    } in
    record {
      statements = units_of 0 (canon_items g);
      sayings = canon_items g;
      cut = cut;
      spelt = units_spelt 0 (canon_items g) lines;
      says = says_game g h;
    }
