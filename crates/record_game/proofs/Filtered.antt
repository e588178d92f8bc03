-- What the parts of a record's items contribute to each of the filters.
use Rattle.std.proofs.Common.{◌≡◌, Bool, true, false, List, [], ◌∷◌, filter, Option, None, refl, ap}
use Rattle.std.specs.List.{AllByRecursion, filter_map}
use Rattle.shogi_board.specs.declared.color.Color.{Color}
use Rattle.csa_text.specs.Saying.{Saying, version, name, header, even, rank, pieces, turn, walked, time, ending}
use Rattle.record_game.specs.Items.{is_version, name_given, names, header_given, headers, is_even, rank_given, ranks, is_position, positions, is_body, body}

abbrev pub AreBody : List Saying → Type 0
AreBody ss = AllByRecursion (λ s. is_body s ≡ true) ss

abbrev pub AreHead : List Saying → Type 0
AreHead ss = AllByRecursion (λ s. is_body s ≡ false) ss

abbrev pub ArePositions : List Saying → Type 0
ArePositions ss = AllByRecursion (λ s. is_position s ≡ true) ss

-- a list of which a test or a choice leaves nothing or everything
pub none_of : {X : Type 0} (p : X → Bool) (xs : List X) → AllByRecursion (λ x. p x ≡ false) xs → filter p xs ≡ []
none_of p [] h = refl
none_of p (x ∷ xs) h = rw h.0 (none_of p xs h.1)

pub all_of : {X : Type 0} (p : X → Bool) (xs : List X) → AllByRecursion (λ x. p x ≡ true) xs → filter p xs ≡ xs
all_of p [] h = refl
all_of p (x ∷ xs) h = rw h.0 (ap (λ ys. x ∷ ys) (all_of p xs h.1))

pub nothing_of : {X Y : Type 0} (f : X → Option Y) (xs : List X) → AllByRecursion (λ x. f x ≡ None) xs → filter_map f xs ≡ []
nothing_of f [] h = refl
nothing_of f (x ∷ xs) h = rw h.0 (nothing_of f xs h.1)

pub each_weaker : {X : Type 0} (P Q : X → Type 0) → ((x : X) → P x → Q x) → (xs : List X) → AllByRecursion P xs → AllByRecursion Q xs
each_weaker P Q f [] h = tt
each_weaker P Q f (x ∷ xs) h = (f x h.0, each_weaker P Q f xs h.1)

-- items of the body are not versions, names or headers
body_version : (s : Saying) → is_body s ≡ true → is_version s ≡ false
body_version version h = cc
body_version (name color text) h = cc
body_version (header key text) h = cc
body_version (even pairs) h = refl
body_version (rank number cells) h = refl
body_version (pieces color pairs) h = refl
body_version (turn color) h = refl
body_version (walked color m) h = refl
body_version (time t) h = refl
body_version (ending e) h = refl

body_name : (side : Color) (s : Saying) → is_body s ≡ true → name_given side s ≡ None
body_name side version h = cc
body_name side (name color text) h = cc
body_name side (header key text) h = cc
body_name side (even pairs) h = refl
body_name side (rank number cells) h = refl
body_name side (pieces color pairs) h = refl
body_name side (turn color) h = refl
body_name side (walked color m) h = refl
body_name side (time t) h = refl
body_name side (ending e) h = refl

body_header : (s : Saying) → is_body s ≡ true → header_given s ≡ None
body_header version h = cc
body_header (name color text) h = cc
body_header (header key text) h = cc
body_header (even pairs) h = refl
body_header (rank number cells) h = refl
body_header (pieces color pairs) h = refl
body_header (turn color) h = refl
body_header (walked color m) h = refl
body_header (time t) h = refl
body_header (ending e) h = refl

-- the others are not position statements
head_position : (s : Saying) → is_body s ≡ false → is_position s ≡ false
head_position version h = refl
head_position (name color text) h = refl
head_position (header key text) h = refl
head_position (even pairs) h = cc
head_position (rank number cells) h = cc
head_position (pieces color pairs) h = cc
head_position (turn color) h = cc
head_position (walked color m) h = cc
head_position (time t) h = cc
head_position (ending e) h = cc

head_even : (s : Saying) → is_body s ≡ false → is_even s ≡ false
head_even version h = refl
head_even (name color text) h = refl
head_even (header key text) h = refl
head_even (even pairs) h = cc
head_even (rank number cells) h = refl
head_even (pieces color pairs) h = refl
head_even (turn color) h = refl
head_even (walked color m) h = refl
head_even (time t) h = refl
head_even (ending e) h = refl

head_rank : (s : Saying) → is_body s ≡ false → rank_given s ≡ None
head_rank version h = refl
head_rank (name color text) h = refl
head_rank (header key text) h = refl
head_rank (even pairs) h = refl
head_rank (rank number cells) h = cc
head_rank (pieces color pairs) h = refl
head_rank (turn color) h = refl
head_rank (walked color m) h = refl
head_rank (time t) h = refl
head_rank (ending e) h = refl

-- position statements belong to the body, and give no side
position_body : (s : Saying) → is_position s ≡ true → is_body s ≡ true
position_body version h = cc
position_body (name color text) h = cc
position_body (header key text) h = cc
position_body (even pairs) h = refl
position_body (rank number cells) h = refl
position_body (pieces color pairs) h = refl
position_body (turn color) h = cc
position_body (walked color m) h = cc
position_body (time t) h = cc
position_body (ending e) h = cc

pub no_versions : (ss : List Saying) → AreBody ss → filter is_version ss ≡ []
no_versions ss h = none_of is_version ss (each_weaker (λ s. is_body s ≡ true) (λ s. is_version s ≡ false) body_version ss h)

pub no_names : (side : Color) (ss : List Saying) → AreBody ss → names side ss ≡ []
no_names side ss h = nothing_of (name_given side) ss (each_weaker (λ s. is_body s ≡ true) (λ s. name_given side s ≡ None) (body_name side) ss h)

pub no_headers : (ss : List Saying) → AreBody ss → headers ss ≡ []
no_headers ss h = nothing_of header_given ss (each_weaker (λ s. is_body s ≡ true) (λ s. header_given s ≡ None) body_header ss h)

pub no_positions : (ss : List Saying) → AreHead ss → positions ss ≡ []
no_positions ss h = none_of is_position ss (each_weaker (λ s. is_body s ≡ false) (λ s. is_position s ≡ false) head_position ss h)

pub no_evens : (ss : List Saying) → AreHead ss → filter is_even ss ≡ []
no_evens ss h = none_of is_even ss (each_weaker (λ s. is_body s ≡ false) (λ s. is_even s ≡ false) head_even ss h)

pub no_ranks : (ss : List Saying) → AreHead ss → ranks ss ≡ []
no_ranks ss h = nothing_of rank_given ss (each_weaker (λ s. is_body s ≡ false) (λ s. rank_given s ≡ None) head_rank ss h)

pub no_body : (ss : List Saying) → AreHead ss → body ss ≡ []
no_body ss h = none_of is_body ss h

pub all_body : (ss : List Saying) → AreBody ss → body ss ≡ ss
all_body ss h = all_of is_body ss h

pub positions_are_body : (ss : List Saying) → ArePositions ss → AreBody ss
positions_are_body ss h = each_weaker (λ s. is_position s ≡ true) (λ s. is_body s ≡ true) position_body ss h
