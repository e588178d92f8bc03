-- What counts of a summary's lines is what the plain function makes of them, one line after
-- another.
use Rattle.std.proofs.Common.{◌≡◌, ◌↔◌, ℕ, ◌++◌, take, subst, take-append-drop, Bool, true, false, List, [], ◌∷◌, length, drop, Option, Some, None, codes, refl, sym, ap, ◌∙◌, append_assoc}
use Rattle.std.specs.Prelude.{nat_eq, bytes_eq, ◌≢◌, IfSome, if◌then◌else◌, option_map}
use Rattle.std.specs.List.{AllByRecursion, filter_map, flat_map, starts_with, cons_option}
use Rattle.std.specs.Option.{option_to_list}
use Rattle.std.proofs.lemmas.List.{append-nil}
use Rattle.std.proofs.lemmas.Bool.Decides.{Decides-eqb}
use Rattle.std.proofs.lemmas.Grind.{flat_map-append}
use Rattle.std.proofs.lemmas.List.Elements.{filter_map-append}
use Rattle.std.proofs.lemmas.Slice.Eq.{bytes_eq-Decides, slice_eq-Decides}
use Rattle.bridge_table.specs.Hearing.{one_more, extended, value_or, content_after}
use Rattle.bridge_table.specs.Summary.{PositionBlocks, none, one, several, SummaryContent, no_content, Block, Part, line, block, begin_line, end_line, begun_lines, part_lines, IsBlock, IsPart, value_of, last_text, last_value, block_of, is_position, position_text, position_blocks, title_of, CountsAs}
use Rattle.session_lines.specs.Texts.{ended_line, text_of}

abbrev Lines : Type 0
Lines = List (List ℕ)

abbrev from_server : List ℕ → List ℕ → List ℕ → PositionBlocks → Option (List ℕ) → SummaryContent
from_server b w t p o = record { black = b; white = w; turn = t; positions = p; begun = o }

-- all lines, one after another
abbrev pub received_over : SummaryContent → Lines → SummaryContent
received_over h [] = h
received_over h (x ∷ xs) = received_over (content_after h x) xs

pub over-append : (h : SummaryContent) (xs ys : Lines) → received_over h (xs ++ ys) ≡ received_over (received_over h xs) ys
over-append h [] ys = refl
over-append h (x ∷ xs) ys = over-append (content_after h x) xs ys

not_true : (b : Bool) → (b ≡ true → ⊥) → b ≡ false
not_true true h = absurd (h refl)
not_true false h = refl

other_line : (a b : List ℕ) → a ≢ b → bytes_eq a b ≡ false
other_line a b h = not_true (bytes_eq a b) (λ e. h ((bytes_eq-Decides a b).0 e))

same_line : (a : List ℕ) → bytes_eq a a ≡ true
same_line a = (bytes_eq-Decides a a).1 refl

-- 1. a block
extend_all : PositionBlocks → Lines → PositionBlocks
extend_all p [] = p
extend_all p (x ∷ xs) = extend_all (extended p x) xs

in_lines : Bool → PositionBlocks → Lines → PositionBlocks
in_lines true p xs = extend_all p xs
in_lines false p xs = p

inner : (b w t : List ℕ) (p : PositionBlocks) (title : List ℕ) (v : Bool) (xs : Lines) → is_position title ≡ v
    → AllByRecursion (λ text. text ≢ end_line title) xs
    → received_over (from_server b w t p (Some title)) xs ≡ from_server b w t (in_lines v p xs) (Some title)
unfolding extend_all in_lines
inner b w t p title true [] e f = refl
inner b w t p title false [] e f = refl
inner b w t p title true (x ∷ xs) e f = rw (other_line x (end_line title) f.0, e) (inner b w t (extended p x) title true xs e f.1)
inner b w t p title false (x ∷ xs) e f = rw (other_line x (end_line title) f.0, e) (inner b w t p title false xs e f.1)

-- the position blocks and this one more
abbrev added : PositionBlocks → List ℕ → PositionBlocks
added none text = one text
added (one old) text = several
added several text = several

abbrev with_text : Option (List ℕ) → PositionBlocks → PositionBlocks
with_text None p = p
with_text (Some text) p = added p text

extend_one : (text : List ℕ) (xs : Lines) → extend_all (one text) xs ≡ one (text ++ text_of xs)
unfolding extend_all
extend_one text [] = ap one (sym (append-nil text))
extend_one text (x ∷ xs) = extend_one (text ++ ended_line x) xs ∙ ap one (append_assoc text (ended_line x) (text_of xs))

extend_several : (xs : Lines) → extend_all several xs ≡ several
unfolding extend_all
extend_several [] = refl
extend_several (x ∷ xs) = extend_several xs

block_texts : (p : PositionBlocks) (b : Block) (v : Bool) → is_position b.title ≡ v
    → in_lines v (if v then one_more p else p) b.lines ≡ with_text (position_text b) p
unfolding in_lines
block_texts none b true e = rw e (extend_one [] b.lines)
block_texts (one old) b true e = rw e (extend_several b.lines)
block_texts several b true e = rw e (extend_several b.lines)
block_texts p b false e = rw e refl

begun : (b w t : List ℕ) (p : PositionBlocks) (k : Block) → IsBlock k
    → received_over (from_server b w t p None) (begun_lines k) ≡ from_server b w t (with_text (position_text k) p) (Some k.title)
begun b w t p k f =
    inner b w t (if is_position k.title then one_more p else p) k.title (is_position k.title) k.lines refl f
    ∙ ap (λ q. from_server b w t q (Some k.title)) (block_texts p k (is_position k.title) refl)

ends : (b w t : List ℕ) (p : PositionBlocks) (title : List ℕ) → content_after (from_server b w t p (Some title)) (end_line title) ≡ from_server b w t p None
ends b w t p title = rw (same_line (end_line title)) refl

-- 2. all parts
last_from : List ℕ → Lines → List ℕ
last_from d [] = d
last_from d (x ∷ xs) = last_from x xs

last_of : (x : List ℕ) (xs : Lines) → last_text (x ∷ xs) ≡ last_from x xs
unfolding last_from
last_of x [] = refl
last_of x (y ∷ ys) = last_of y ys

last_is : (xs : Lines) → last_from [] xs ≡ last_text xs
unfolding last_from
last_is [] = refl
last_is (x ∷ xs) = sym (last_of x xs)

by_value : (v : Bool) (d x : List ℕ) (rest : Lines) → last_from (if v then x else d) rest ≡ last_from d (cons_option (if v then Some x else None) rest)
unfolding last_from
by_value true d x rest = refl
by_value false d x rest = refl

value_first : (key d text : List ℕ) (rest : Lines) → last_from (value_or key d text) rest ≡ last_from d (cons_option (value_of key (line text)) rest)
value_first key d text rest = by_value (starts_with nat_eq text key) d (drop (length key) text) rest

add_all : PositionBlocks → Lines → PositionBlocks
add_all p [] = p
add_all p (t ∷ ts) = add_all (added p t) ts

add_several : (ts : Lines) → add_all several ts ≡ several
unfolding add_all
add_several [] = refl
add_several (t ∷ ts) = add_several ts

add_is : (ts : Lines) → add_all none ts ≡ position_blocks ts
unfolding add_all
add_is [] = refl
add_is (t ∷ []) = refl
add_is (t ∷ u ∷ us) = add_several us

add_first : (o : Option (List ℕ)) (p : PositionBlocks) (ts : Lines) → add_all (with_text o p) ts ≡ add_all p (cons_option o ts)
unfolding add_all
add_first None p ts = refl
add_first (Some t) p ts = refl

add_more : (o : Option (List ℕ)) (p : PositionBlocks) (ts : Lines) → with_text o (add_all p ts) ≡ add_all p (ts ++ cons_option o [])
unfolding add_all
add_more None p [] = refl
add_more (Some t) p [] = refl
add_more o p (u ∷ ts) = add_more o (added p u) ts

same : (b c w x t u : List ℕ) (p q : PositionBlocks) (o : Option (List ℕ)) → b ≡ c → w ≡ x → t ≡ u → p ≡ q → from_server b w t p o ≡ from_server c x u q o
same b c w x t u p q o e f g h = rw (e, f, g, h) refl

plain : (b w t : List ℕ) (p : PositionBlocks) (text : List ℕ) → starts_with nat_eq text (codes "BEGIN ") ≡ false
    → content_after (from_server b w t p None) text ≡ from_server (value_or (codes "Name+:") b text) (value_or (codes "Name-:") w text) (value_or (codes "Your_Turn:") t text) p None
plain b w t p text e = rw e refl

abbrev texts_of : List Part → Lines
texts_of parts = filter_map position_text (filter_map block_of parts)

over_parts : (b w t : List ℕ) (p : PositionBlocks) (parts : List Part) → AllByRecursion IsPart parts
    → received_over (from_server b w t p None) (flat_map part_lines parts)
    ≡ from_server (last_from b (filter_map (value_of (codes "Name+:")) parts)) (last_from w (filter_map (value_of (codes "Name-:")) parts))
    (last_from t (filter_map (value_of (codes "Your_Turn:")) parts)) (add_all p (texts_of parts)) None
unfolding last_from add_all
over_parts b w t p [] f = refl
over_parts b w t p (line text ∷ ps) f =
    ap (λ h. received_over h (flat_map part_lines ps)) (plain b w t p text f.0)
    ∙ (over_parts (value_or (codes "Name+:") b text) (value_or (codes "Name-:") w text) (value_or (codes "Your_Turn:") t text) p ps f.1
    ∙ same _ _ _ _ _ _ _ _ None (value_first (codes "Name+:") b text (filter_map (value_of (codes "Name+:")) ps))
    (value_first (codes "Name-:") w text (filter_map (value_of (codes "Name-:")) ps))
    (value_first (codes "Your_Turn:") t text (filter_map (value_of (codes "Your_Turn:")) ps)) refl)
over_parts b w t p (block k ∷ ps) f =
    over-append (from_server b w t p None) (begun_lines k ++ end_line k.title ∷ []) (flat_map part_lines ps)
    ∙ (ap (λ h. received_over h (flat_map part_lines ps))
    (over-append (from_server b w t p None) (begun_lines k) (end_line k.title ∷ [])
    ∙ (ap (λ h. content_after h (end_line k.title)) (begun b w t p k f.0) ∙ ends b w t (with_text (position_text k) p) k.title))
    ∙ (over_parts b w t (with_text (position_text k) p) ps f.1
    ∙ same _ _ _ _ _ _ _ _ None refl refl refl (add_first (position_text k) p (texts_of ps))))

abbrev lines_of : List Part → Option Block → Lines
lines_of parts last = flat_map part_lines parts ++ flat_map begun_lines (option_to_list last)

abbrev all_texts : List Part → Option Block → Lines
all_texts parts last = filter_map position_text (filter_map block_of parts ++ option_to_list last)

abbrev stated : List Part → Option Block → SummaryContent
stated parts last =
    from_server (last_value (codes "Name+:") parts) (last_value (codes "Name-:") parts) (last_value (codes "Your_Turn:") parts)
    (position_blocks (all_texts parts last)) (option_map title_of last)

first_parts : (parts : List Part) → AllByRecursion IsPart parts
    → received_over no_content (flat_map part_lines parts)
    ≡ from_server (last_value (codes "Name+:") parts) (last_value (codes "Name-:") parts) (last_value (codes "Your_Turn:") parts) (add_all none (texts_of parts)) None
first_parts parts f =
    over_parts [] [] [] none parts f
    ∙ same _ _ _ _ _ _ _ _ None (last_is (filter_map (value_of (codes "Name+:")) parts)) (last_is (filter_map (value_of (codes "Name-:")) parts))
    (last_is (filter_map (value_of (codes "Your_Turn:")) parts)) refl

all_texts_of : (parts : List Part) (last : List Block) → filter_map position_text (filter_map block_of parts ++ last) ≡ texts_of parts ++ filter_map position_text last
all_texts_of parts last = filter_map-append position_text (filter_map block_of parts) last

over_all : (parts : List Part) (last : Option Block) → AllByRecursion IsPart parts → IfSome last IsBlock → received_over no_content (lines_of parts last) ≡ stated parts last
over_all parts None f g =
    ap (received_over no_content) (append-nil (flat_map part_lines parts))
    ∙ (first_parts parts f
    ∙ same _ _ _ _ _ _ _ _ None refl refl refl
    (add_is (texts_of parts) ∙ ap position_blocks (sym (all_texts_of parts [] ∙ append-nil (texts_of parts)))))
over_all parts (Some k) f g =
    ap (λ ls. received_over no_content (flat_map part_lines parts ++ ls)) (append-nil (begun_lines k))
    ∙ (over-append no_content (flat_map part_lines parts) (begun_lines k)
    ∙ (ap (λ h. received_over h (begun_lines k)) (first_parts parts f)
    ∙ (begun (last_value (codes "Name+:") parts) (last_value (codes "Name-:") parts) (last_value (codes "Your_Turn:") parts) (add_all none (texts_of parts)) k g
    ∙ same _ _ _ _ _ _ _ _ (Some k.title) refl refl refl
    (add_more (position_text k) none (texts_of parts)
    ∙ (add_is (texts_of parts ++ cons_option (position_text k) []) ∙ ap position_blocks (sym (all_texts_of parts (k ∷ []))))))))

-- 3. the relation and the function
fields : (h : SummaryContent) (parts : List Part) (last : Option Block) → h.black ≡ last_value (codes "Name+:") parts → h.white ≡ last_value (codes "Name-:") parts
    → h.turn ≡ last_value (codes "Your_Turn:") parts → h.positions ≡ position_blocks (all_texts parts last) → h.begun ≡ option_map title_of last → h ≡ stated parts last
fields h parts last a b c d e =
    let same_begun : h ≡ from_server h.black h.white h.turn h.positions (option_map title_of last) = ap (λ (o : Option (List ℕ)). record h { begun = o }) e in
    same_begun ∙ same _ _ _ _ _ _ _ _ (option_map title_of last) a b c d

pub counts_is : (lines : Lines) (h : SummaryContent) → CountsAs lines h → h ≡ received_over no_content lines
counts_is lines h c =
    fields h c.parts c.begun c.black c.white c.turn c.positions c.title
    ∙ (sym (over_all c.parts c.begun c.fit c.begun_fits) ∙ ap (received_over no_content) (sym c.whole))

counts_of : (lines : Lines) (parts : List Part) (last : Option Block) → lines ≡ lines_of parts last → AllByRecursion IsPart parts → IfSome last IsBlock
    → CountsAs lines (received_over no_content lines)
counts_of lines parts last e f g =
    let all = ap (received_over no_content) e ∙ over_all parts last f g in
    record {
      parts = parts;
      begun = last;
      whole = e;
      fit = f;
      begun_fits = g;
      black = ap (λ (h : SummaryContent). h.black) all;
      white = ap (λ (h : SummaryContent). h.white) all;
      turn = ap (λ (h : SummaryContent). h.turn) all;
      positions = ap (λ (h : SummaryContent). h.positions) all;
      title = ap (λ (h : SummaryContent). h.begun) all;
    }

pub counts_first : CountsAs [] no_content
counts_first = counts_of [] [] None refl tt tt

-- 4. one line more
all_more : {X : Type 0} (P : X → Type 0) (xs : List X) (x : X) → AllByRecursion P xs → P x → AllByRecursion P (xs ++ x ∷ [])
all_more P [] x h k = (k, tt)
all_more P (y ∷ ys) x h k = (h.0, all_more P ys x h.1 k)

parts_more : (parts : List Part) (p : Part) → flat_map part_lines (parts ++ p ∷ []) ≡ flat_map part_lines parts ++ part_lines p
parts_more parts p = flat_map-append part_lines parts (p ∷ []) ∙ ap (λ ls. flat_map part_lines parts ++ ls) (append-nil (part_lines p))

begins : (x : List ℕ) → starts_with nat_eq x (codes "BEGIN ") ≡ true → x ≡ begin_line (drop 6 x)
begins x e =
    let front : codes "BEGIN " ≡ take 6 x = (slice_eq-Decides Decides-eqb (codes "BEGIN ") (take 6 x) _ refl).0 e in
    sym (take-append-drop 6 x) ∙ ap (λ l. l ++ drop 6 x) (sym front)

abbrev Counted : Lines → Type 0
Counted lines = CountsAs lines (received_over no_content lines)

outside_more : (parts : List Part) (x : List ℕ) (v : Bool) → starts_with nat_eq x (codes "BEGIN ") ≡ v → AllByRecursion IsPart parts → Counted (lines_of parts None ++ x ∷ [])
outside_more parts x true e f =
    counts_of _ parts (Some (record { title = drop 6 x; lines = [] }))
    (ap (λ ls. ls ++ x ∷ []) (append-nil (flat_map part_lines parts)) ∙ ap (λ l. flat_map part_lines parts ++ l ∷ []) (begins x e)) f tt
outside_more parts x false e f =
    counts_of _ (parts ++ line x ∷ []) None
    (ap (λ ls. ls ++ x ∷ []) (append-nil (flat_map part_lines parts))
    ∙ (sym (parts_more parts (line x)) ∙ sym (append-nil (flat_map part_lines (parts ++ line x ∷ [])))))
    (all_more IsPart parts (line x) f e) tt

within_more : (parts : List Part) (k : Block) (x : List ℕ) (v : Bool) → bytes_eq x (end_line k.title) ≡ v → AllByRecursion IsPart parts → IsBlock k
    → Counted (lines_of parts (Some k) ++ x ∷ [])
within_more parts k x true e f g =
    let ended : x ≡ end_line k.title = (bytes_eq-Decides x (end_line k.title)).0 e in
    counts_of _ (parts ++ block k ∷ []) None
    (ap (λ ls. (flat_map part_lines parts ++ ls) ++ x ∷ []) (append-nil (begun_lines k))
    ∙ (append_assoc (flat_map part_lines parts) (begun_lines k) (x ∷ [])
    ∙ (ap (λ l. flat_map part_lines parts ++ (begun_lines k ++ l ∷ [])) ended
    ∙ (sym (parts_more parts (block k)) ∙ sym (append-nil (flat_map part_lines (parts ++ block k ∷ [])))))))
    (all_more IsPart parts (block k) f g) tt
within_more parts k x false e f g =
    let other : x ≢ end_line k.title = λ same. let yes_so = (bytes_eq-Decides x (end_line k.title)).1 same in cc in
    counts_of _ parts (Some (record { title = k.title; lines = k.lines ++ x ∷ [] }))
    (ap (λ ls. (flat_map part_lines parts ++ ls) ++ x ∷ []) (append-nil (begun_lines k))
    ∙ (append_assoc (flat_map part_lines parts) (begun_lines k) (x ∷ [])
    ∙ ap (λ ls. flat_map part_lines parts ++ ls) (sym (append-nil (begin_line k.title ∷ (k.lines ++ x ∷ []))))))
    f (all_more (λ text. text ≢ end_line k.title) k.lines x g other)

more_of : (parts : List Part) (last : Option Block) (x : List ℕ) → AllByRecursion IsPart parts → IfSome last IsBlock → Counted (lines_of parts last ++ x ∷ [])
more_of parts None x f g = outside_more parts x (starts_with nat_eq x (codes "BEGIN ")) refl f
more_of parts (Some k) x f g = within_more parts k x (bytes_eq x (end_line k.title)) refl f g

over_next : (lines : Lines) (x : List ℕ) (h : SummaryContent) → CountsAs lines h → received_over no_content (lines ++ x ∷ []) ≡ content_after h x
over_next lines x h c = over-append no_content lines (x ∷ []) ∙ ap (λ k. content_after k x) (sym (counts_is lines h c))

pub counts_more : (lines : Lines) (x : List ℕ) (h : SummaryContent) → CountsAs lines h → CountsAs (lines ++ x ∷ []) (content_after h x)
counts_more lines x h c =
    let all : Counted (lines ++ x ∷ []) = subst (λ ls. Counted (ls ++ x ∷ [])) (sym c.whole) (more_of c.parts c.begun x c.fit c.begun_fits) in
    subst (CountsAs (lines ++ x ∷ [])) (over_next lines x h c) all

pub counts_next : (lines : Lines) (x : List ℕ) (h new : SummaryContent) → CountsAs lines h → (CountsAs (lines ++ x ∷ []) new ↔ (new ≡ content_after h x))
counts_next lines x h new c =
    (λ d. counts_is (lines ++ x ∷ []) new d ∙ over_next lines x h c, λ e. rw e (counts_more lines x h c))
