-- One turn of the loop over the lines behind the header.
use Rattle.std.proofs.Common.{ℕ, zero, suc, ◌+◌, ◌<◌, ◌≤◌, ◌≡◌, refl, ap, sym, ◌∙◌, List, [], ◌∷◌, ◌++◌, append_assoc, length, length-drop, take, drop, arith, Bool, true, false, Option, None, Some, unwrap_or}
use Rattle.std.specs.Prelude.{◌&&◌, IfSome, bytes_eq, codes, find, if◌then◌else◌, nat_eq, nat_le, nat_lt, option_map, option_to_list, Result, Ok, Err}
use Rattle.std.specs.List.{list_all, position}
use Rattle.ste_base.specs.Number.{number_of}
use Rattle.blif_lines.specs.Lines.{before, is_line_feed, pieces, words_of}
use Rattle.blif_lines.proofs.Scanning.{first_piece, front, place}
use Rattle.aig_model.specs.declared.aig.Aig.{Aig}
use Rattle.aig_model.specs.declared.aig.Kind.TheVariants as kind
use Rattle.aig_model.specs.declared.fault.AigFault.{AigFault}
use Rattle.aig_model.specs.declared.fault.AigFault.TheVariants.{BadLine, LeftOut, OutOfMemory}
use Rattle.aig_model.specs.declared.line.Entry.{Entry}
use Rattle.aig_model.specs.declared.line.Head.{Head}
use Rattle.aig_model.specs.declared.line.Header.{Header}
use Rattle.aig_model.specs.declared.line.Header.TheVariants.{Bad, Good}
use Rattle.aig_model.specs.declared.line.Said.{Said}
use Rattle.aig_model.specs.declared.line.Said.TheVariants as said
use Rattle.aig_model.specs.Answer.{text_entries, entries_with}
use Rattle.aig_model.specs.Faults.{defines, text_fault, fault_with, first_bad, first_faulty, first_words, aig_later_lines, lines_asked, aig_may_stand, missing_line, or_else}
use Rattle.aig_model.specs.Lines.{count_of, head_of, header_of, header_with, is_above_zero, is_count, said_at}
use Rattle.aig_model.specs.Words.{greatest_number, is_aig_number}
use Rattle.aig_model.specs.Spelled.{aig_of, entries_from, entry_onto}
use Rattle.aig_reader.specs.private.Drafts.{AreLines, IsFinished, IsText, is_end, no_aig, said_added}

-- what two parts of a text say, one behind the other
abbrev pub joined : Aig → Aig → Aig
joined one other = record {
  inputs = one.inputs ++ other.inputs;
  latches = one.latches ++ other.latches;
  outputs = one.outputs ++ other.outputs;
  ands = one.ands ++ other.ands;
  input_symbols = one.input_symbols ++ other.input_symbols;
  latch_symbols = one.latch_symbols ++ other.latch_symbols;
  output_symbols = one.output_symbols ++ other.output_symbols;
}

-- what is left decides: the first line that may not stand, the number of lines, and what is said
pub record Decide (head : Head) (aig : Aig) (defined : List ℕ) (count : ℕ) (rest lines : List (List
    ℕ)) : Type 0 where
  pub bad : first_bad defined (entries_from head count rest) ≡ first_bad [] (entries_from head 0
      lines)
  pub long : count + length (entries_from head count rest) ≡ length (entries_from head 0 lines)
  pub spelled : joined aig (aig_of (entries_from head count rest)) ≡ aig_of (entries_from head 0
      lines)

zero_plus : (n : ℕ) → 0 + n ≡ n
zero_plus n = omega arith

-- nothing is read so far
pub begun : (head : Head) (aig : Aig) (defined : List ℕ) (lines : List (List ℕ)) → aig ≡ no_aig →
    defined ≡ [] → Decide head aig defined 0 lines lines
begun head aig defined lines e d = record {
  bad = ap (λ xs. first_bad xs (entries_from head 0 lines)) d;
  long = zero_plus (length (entries_from head 0 lines));
  spelled = ap (λ (a : Aig). joined a (aig_of (entries_from head 0 lines))) e;
}

-- what a test for emptiness says
pub some_left : (empty : Bool) (text : List ℕ) → empty ≡ nat_eq (length text) 0 → empty ≡ false →
    0 < length text
some_left empty [] e f = absurd (cc (e, f))
some_left empty (byte ∷ text) e f = omega arith

entry_there : (count : ℕ) (s : Said) (later : List Entry) → is_end s ≡ false →
    entry_onto count s later ≡ (record { line = count + 2; said = s }) ∷ later
entry_there count (said.Input var) later e = refl
entry_there count (said.Latch var next init) later e = refl
entry_there count (said.Output literal) later e = refl
entry_there count (said.And var left right) later e = refl
entry_there count (said.Symbol kind symbol) later e = refl
entry_there count said.End later e = absurd (cc e)
entry_there count said.Wrong later e = refl

ended : (count : ℕ) (s : Said) (later : List Entry) → is_end s ≡ true →
    entry_onto count s later ≡ []
ended count (said.Input var) later e = absurd (cc e)
ended count (said.Latch var next init) later e = absurd (cc e)
ended count (said.Output literal) later e = absurd (cc e)
ended count (said.And var left right) later e = absurd (cc e)
ended count (said.Symbol kind symbol) later e = absurd (cc e)
ended count said.End later e = refl
ended count said.Wrong later e = absurd (cc e)

-- what is said with one more line, and then the rest, is what the line says in front of the rest
grown : (aig : Aig) (line : ℕ) (s : Said) (entries : List Entry) →
    joined (said_added aig line s) (aig_of entries) ≡ joined aig (aig_of ((record {
      line = line;
      said = s;
    }) ∷ entries))
grown aig line (said.Input var) entries = ap (λ xs. record (joined aig (aig_of entries)) {
  inputs =
      xs;
}) (append_assoc aig.inputs (var ∷ []) (aig_of entries).inputs)
grown aig line (said.Latch var next init) entries = ap
    (λ xs. record (joined aig (aig_of entries)) { latches = xs }) (append_assoc aig.latches ((record
    { line = line; var = var; next = next; init = init }) ∷ []) (aig_of entries).latches)
grown aig line (said.Output literal) entries = ap
    (λ xs. record (joined aig (aig_of entries)) { outputs = xs }) (append_assoc aig.outputs ((record
    { line = line; literal = literal }) ∷ []) (aig_of entries).outputs)
grown aig line (said.And var left right) entries = ap
    (λ xs. record (joined aig (aig_of entries)) { ands = xs }) (append_assoc aig.ands ((record {
      line = line;
      var = var;
      left = left;
      right = right;
    }) ∷ []) (aig_of entries).ands)
grown aig line (said.Symbol kind.Input symbol) entries = ap
    (λ xs. record (joined aig (aig_of entries)) { input_symbols = xs }) (append_assoc
    aig.input_symbols (symbol ∷ []) (aig_of entries).input_symbols)
grown aig line (said.Symbol kind.Latch symbol) entries = ap
    (λ xs. record (joined aig (aig_of entries)) { latch_symbols = xs }) (append_assoc
    aig.latch_symbols (symbol ∷ []) (aig_of entries).latch_symbols)
grown aig line (said.Symbol kind.Output symbol) entries = ap
    (λ xs. record (joined aig (aig_of entries)) { output_symbols = xs }) (append_assoc
    aig.output_symbols (symbol ∷ []) (aig_of entries).output_symbols)
grown aig line said.End entries = refl
grown aig line said.Wrong entries = refl

-- the first line of a text, and those behind it
pub line_cut : (rest line behind : List ℕ) (at : Option ℕ) → 0 < length rest →
    at ≡ position is_line_feed rest → line ≡ take (unwrap_or at (length rest)) rest →
    behind ≡ drop (suc (unwrap_or at (length rest))) rest →
    pieces is_line_feed rest ≡ line ∷ pieces is_line_feed behind
line_cut rest line behind at some a l b =
    let to : unwrap_or at (length rest) ≡ length (before is_line_feed rest) = ap
    (λ o. unwrap_or o (length rest)) a ∙ place is_line_feed rest in
    let one : line ≡ before is_line_feed rest = l ∙ ap
    (λ o. take (unwrap_or o (length rest)) rest) a ∙ front is_line_feed rest in
    let more : behind ≡ drop (suc (length (before is_line_feed rest))) rest = b ∙ ap
    (λ n. drop (suc n) rest) to in
    first_piece is_line_feed rest some ∙ (λ i. sym one i ∷ pieces is_line_feed (sym more i))

-- the entries from a line on that does not end what is read
entries_cut : (head : Head) (count : ℕ) (line : List ℕ) (rest behind : List (List ℕ)) (s : Said) →
    rest ≡ line ∷ behind → s ≡ said_at head count line → is_end s ≡ false →
    entries_from head count rest ≡ (record { line = count + 2; said = s }) ∷ entries_from head
    (count + 1) behind
entries_cut head count line rest behind s r is go =
    ap (entries_from head count) r
    ∙ ap (λ x. entry_onto count x (entries_from head (suc count) behind)) (sym is)
    ∙ entry_there count s (entries_from head (suc count) behind) go
    ∙ ap (λ n. (record { line = count + 2; said = s }) ∷ entries_from head n behind) (after count)
  where
    after : (n : ℕ) → suc n ≡ n + 1
    after n = omega arith

stands : (defined : List ℕ) (s : Said) (line : ℕ) (entries : List Entry) →
    aig_may_stand defined s ≡ true → first_bad defined ((record { line = line; said = s }) ∷ entries) ≡
    first_bad (defined ++ option_to_list (defines s)) entries
stands defined s line entries e = rw e refl

falls : (defined : List ℕ) (s : Said) (line : ℕ) (entries : List Entry) →
    aig_may_stand defined s ≡ false → first_bad defined ((record { line = line; said = s }) ∷ entries) ≡
    Some line
falls defined s line entries e = rw e refl

-- the first line of what is left, as the calls find it
pub record IsNext (head : Head) (count : ℕ) (rest line behind : List ℕ) (at : Option ℕ) (s : Said) :
    Type 0 where
  pub some : 0 < length rest
  pub place : at ≡ position is_line_feed rest
  pub front : line ≡ take (unwrap_or at (length rest)) rest
  pub back : behind ≡ drop (suc (unwrap_or at (length rest))) rest
  pub says : s ≡ said_at head count line

next_entries : (head : Head) (count : ℕ) (rest line behind : List ℕ) (at : Option ℕ) (s : Said) →
    IsNext head count rest line behind at s → is_end s ≡ false →
    entries_from head count (pieces is_line_feed rest) ≡ (record { line = count + 2; said = s }) ∷
    entries_from head (count + 1) (pieces is_line_feed behind)
next_entries head count rest line behind at s next go =
    entries_cut head count line (pieces is_line_feed rest) (pieces is_line_feed behind) s (line_cut
    rest line behind at next.some next.place next.front next.back) next.says go

-- a line that may stand
pub turn : (head : Head) (aig grows : Aig) (defined more : List ℕ) (count : ℕ) (rest line behind
    text : List ℕ) (at : Option ℕ) (s : Said) (end good : Bool) →
    IsNext head count rest line behind at s → end ≡ is_end s → end ≡ false →
    good ≡ aig_may_stand defined s → good ≡ true → more ≡ defined ++ option_to_list (defines s) →
    grows ≡ said_added aig (count + 2) s → Decide head aig defined count (pieces is_line_feed rest)
    (pieces is_line_feed text) → Decide head grows more (count + 1) (pieces is_line_feed behind)
    (pieces is_line_feed text)
turn head aig grows defined more count rest line behind text at s end good next e go f g d k inv =
    let later = entries_from head (count + 1) (pieces is_line_feed behind) in
    let here = next_entries head count rest line behind at s next (sym e ∙ go) in
    record {
      bad = ap (λ xs. first_bad xs later) d ∙ sym (stands defined s (count + 2) later (sym f ∙ g))
          ∙ sym (ap (first_bad defined) here) ∙ inv.bad;
      long = let long = inv.long in let h = ap (λ (xs : List Entry). length xs) here in omega arith;
      spelled = ap (λ (x : Aig). joined x (aig_of later)) k ∙ grown aig (count + 2) s later
          ∙ sym (ap (λ (xs : List Entry). joined aig (aig_of xs)) here) ∙ inv.spelled;
    }

-- a line that may not stand
pub bad_line : (head : Head) (aig : Aig) (defined : List ℕ) (count : ℕ) (rest line behind text :
    List ℕ) (at : Option ℕ) (s : Said) (end good : Bool) → IsNext head count rest line behind at s →
    end ≡ is_end s → end ≡ false → good ≡ aig_may_stand defined s → good ≡ false →
    Decide head aig defined count (pieces is_line_feed rest) (pieces is_line_feed text) →
    first_faulty head (entries_from head 0 (pieces is_line_feed text)) ≡ Some (count + 2)
bad_line head aig defined count rest line behind text at s end good next e go f g inv =
    let all = entries_from head 0 (pieces is_line_feed text) in
    let first = sym inv.bad ∙ ap (first_bad defined) (next_entries head count rest line behind at s
    next (sym e ∙ go)) ∙ falls defined s (count + 2) (entries_from head (count + 1) (pieces
    is_line_feed behind)) (sym f ∙ g) in
    ap (λ o. or_else o (missing_line head all)) first

append_none : {X : Type 0} (xs : List X) → xs ++ [] ≡ xs
append_none [] = refl
append_none (x ∷ xs) = ap (λ ys. x ∷ ys) (append_none xs)

joined_none : (aig : Aig) → joined aig (aig_of []) ≡ aig
joined_none aig = λ i. record {
  inputs = append_none aig.inputs i;
  latches = append_none aig.latches i;
  outputs = append_none aig.outputs i;
  ands = append_none aig.ands i;
  input_symbols = append_none aig.input_symbols i;
  latch_symbols = append_none aig.latch_symbols i;
  output_symbols = append_none aig.output_symbols i;
}

-- what all lines say, where these many are read and no bad one is among them
lacks : (head : Head) (all : List Entry) (count : ℕ) (b : Bool) → first_bad [] all ≡ None →
    length all ≡ count → nat_lt count (lines_asked head) ≡ b →
    first_faulty head all ≡ (if b then Some (count + 2) else None)
lacks head all count b first long e =
    ap (λ o. or_else o (missing_line head all)) first
    ∙ ap (λ n. if nat_lt n (lines_asked head) then Some (n + 2) else None) long
    ∙ ap (λ c. if c then Some (count + 2) else None) e

aig_if_complete : (head : Head) (aig : Aig) (count : ℕ) (lines : List (List ℕ)) (result : Result Aig
    AigFault) → first_bad [] (entries_from head 0 lines) ≡ None →
    length (entries_from head 0 lines) ≡ count → aig ≡ aig_of (entries_from head 0 lines) →
    IsFinished head count aig result → AreLines head lines result
aig_if_complete head aig count lines (Ok read) first long spelled h = (
  lacks head (entries_from head 0
      lines) count false first long h.0,
  h.1 ∙ spelled,
)
aig_if_complete head aig count lines (Err (BadLine line)) first long spelled h = lacks head (entries_from
    head 0 lines) count true first long h.0 ∙ ap Some (sym h.1)
aig_if_complete head aig count lines (Err (LeftOut line word)) first long spelled h = absurd h
aig_if_complete head aig count lines (Err OutOfMemory) first long spelled h = tt

-- all lines are read
pub finish : (head : Head) (aig : Aig) (defined : List ℕ) (count : ℕ) (rest text : List ℕ) (result :
    Result Aig AigFault) → entries_from head count (pieces is_line_feed rest) ≡ [] →
    Decide head aig defined count (pieces is_line_feed rest) (pieces is_line_feed text) →
    IsFinished head count aig result → AreLines head (pieces is_line_feed text) result
finish head aig defined count rest text result none inv h =
    let first = sym inv.bad ∙ ap (first_bad defined) none in
    let long : length (entries_from head 0 (pieces is_line_feed text)) ≡ count = let e = inv.long in
    let n = ap (λ (xs : List Entry). length xs) none in omega arith in
    let spelled = sym (joined_none aig) ∙ sym (ap
    (λ (xs : List Entry). joined aig (aig_of xs)) none) ∙ inv.spelled in
    aig_if_complete head aig count (pieces is_line_feed text) result first long spelled h

-- at a line that ends what is read, and at the end of the text
pub end_here : (head : Head) (count : ℕ) (rest line behind : List ℕ) (at : Option ℕ) (s : Said) (end
    : Bool) → IsNext head count rest line behind at s → end ≡ is_end s → end ≡ true →
    entries_from head count (pieces is_line_feed rest) ≡ []
end_here head count rest line behind at s end next e go =
    ap (entries_from head count) (line_cut rest line behind at next.some next.place next.front
    next.back)
    ∙ ap (λ x. entry_onto count x (entries_from head (suc count) (pieces is_line_feed behind))) (sym
    next.says)
    ∙ ended count s (entries_from head (suc count) (pieces is_line_feed behind)) (sym e ∙ go)

pub nothing_left : (head : Head) (count : ℕ) (rest : List ℕ) → length rest ≡ 0 →
    entries_from head count (pieces is_line_feed rest) ≡ []
nothing_left head count [] e = refl
nothing_left head count (b ∷ rest) e = absurd (omega (arith, e))

-- a line is shorter than what is left
pub shorter : (rest behind : List ℕ) (at : Option ℕ) → 0 < length rest →
    behind ≡ drop (suc (unwrap_or at (length rest))) rest → length behind + 1 ≤ length rest
shorter rest behind at some e =
    let long = ap (λ (xs : List ℕ). length xs) e in omega (
      arith,
      length-drop (suc (unwrap_or at
          (length rest))) rest,
    )

pub no_longer : (text behind : List ℕ) (at : Option ℕ) →
    behind ≡ drop (suc (unwrap_or at (length text))) text → length text ≤ 67108864 →
    length behind ≤ 67108864
no_longer text behind at e h =
    let long = ap (λ (xs : List ℕ). length xs) e in omega (
      arith,
      length-drop (suc (unwrap_or at
          (length text))) text,
    )

-- the answer on a text, by its header
header_same : (bytes line rest : List ℕ) (at : Option ℕ) (head : Header) →
    at ≡ position is_line_feed bytes → line ≡ take (unwrap_or at (length bytes)) bytes →
    rest ≡ drop (suc (unwrap_or at (length bytes))) bytes → head ≡ header_of (words_of line) →
    (header_of (first_words (pieces is_line_feed bytes)) ≡ head) × (aig_later_lines (pieces is_line_feed
    bytes) ≡ pieces is_line_feed rest)
header_same [] line rest at head a l r h =
    let none : unwrap_or at 0 ≡ 0 = ap (λ o. unwrap_or o 0) a in (
      sym (h ∙ ap (λ x. header_of (words_of x)) l ∙ ap
          (λ n. header_of (words_of (take n []))) none),
      sym (ap (pieces is_line_feed) (r ∙ ap
          (λ n. drop (suc n) []) none)),
    )
header_same (byte ∷ bytes) line rest at head a l r h =
    let cut = line_cut (byte ∷ bytes) line rest at (omega arith) a l r in
    (ap (λ lines. header_of (first_words lines)) cut ∙ sym h, ap aig_later_lines cut)

pub fault_by_lines : (bytes line rest : List ℕ) (at : Option ℕ) (head : Header) →
    at ≡ position is_line_feed bytes → line ≡ take (unwrap_or at (length bytes)) bytes →
    rest ≡ drop (suc (unwrap_or at (length bytes))) bytes → head ≡ header_of (words_of line) →
    text_fault bytes ≡ fault_with head (pieces is_line_feed rest)
fault_by_lines bytes line rest at head a l r h = let same = header_same bytes line rest at head a l r h
    in (λ i. fault_with (same.0 i) (same.1 i))

entries_by_lines : (bytes line rest : List ℕ) (at : Option ℕ) (head : Header) →
    at ≡ position is_line_feed bytes → line ≡ take (unwrap_or at (length bytes)) bytes →
    rest ≡ drop (suc (unwrap_or at (length bytes))) bytes → head ≡ header_of (words_of line) →
    text_entries bytes ≡ entries_with head (pieces is_line_feed rest)
entries_by_lines bytes line rest at head a l r h = let same = header_same bytes line rest at head a l r
    h in (λ i. entries_with (same.0 i) (same.1 i))

-- and by what the lines behind it are answered with
pub text_read : (bytes line rest : List ℕ) (at : Option ℕ) (head : Head) (result : Result Aig
    AigFault) → at ≡ position is_line_feed bytes → line ≡ take (unwrap_or at (length bytes)) bytes →
    rest ≡ drop (suc (unwrap_or at (length bytes))) bytes → Good head ≡ header_of (words_of line) →
    AreLines head (pieces is_line_feed rest) result → IsText bytes result
text_read bytes line rest at head (Ok aig) a l r h read = (
  fault_by_lines bytes line rest at (Good head)
      a l r h ∙ ap (option_map BadLine) read.0,
  read.1
      ∙ ap aig_of (sym (entries_by_lines bytes line rest at (Good head) a l r h)),
)
text_read bytes line rest at head (Err (BadLine n)) a l r h read = fault_by_lines bytes line rest at
    (Good head) a l r h ∙ ap (option_map BadLine) read
text_read bytes line rest at head (Err (LeftOut n word)) a l r h read = absurd read
text_read bytes line rest at head (Err OutOfMemory) a l r h read = tt

-- the numbers of a header are small
head_small : (most inputs latches outputs ands : Option ℕ) (head : Head) →
    IfSome most (λ n. n ≤ greatest_number) → head_of most inputs latches outputs ands ≡ Some head →
    head.most ≤ greatest_number
head_small None inputs latches outputs ands head h e = absurd (cc e)
head_small (Some most) None latches outputs ands head h e = absurd (cc e)
head_small (Some most) (Some inputs) None outputs ands head h e = absurd (cc e)
head_small (Some most) (Some inputs) (Some latches) None ands head h e = absurd (cc e)
head_small (Some most) (Some inputs) (Some latches) (Some outputs) None head h e = absurd (cc e)
head_small (Some most) (Some inputs) (Some latches) (Some outputs) (Some ands) head h e = let same :
    most ≡ head.most = cc e in omega arith

number_small : (is small : Bool) (n max : ℕ) → (small ≡ true → n ≤ max) →
    IfSome (if is && small then Some n else None) (λ k. k ≤ max)
number_small true true n max h = h refl
number_small true false n max h = tt
number_small false small n max h = tt

count_small : (word : List ℕ) → IfSome (count_of word) (λ n. n ≤ greatest_number)
count_small word = number_small (is_aig_number word) (nat_le (number_of word) greatest_number) (number_of word)
    greatest_number (λ e. grind (arith, e))

with_small : (found : Option Head) (further : Option (List ℕ)) (head : Head) → ((one : Head) →
    found ≡ Some one → one.most ≤ greatest_number) → header_with found further ≡ Good head →
    head.most ≤ greatest_number
with_small None further head h e = absurd (cc e)
with_small (Some one) None head h e = let same : one.most ≡ head.most = ap
    (λ (x : Head). x.most) (good_same one head e) in let lt = h one refl in omega arith
  where
    good_same : (one other : Head) → Good one ≡ Good other → one ≡ other
    good_same one other e = cc
with_small (Some one) (Some word) head h e = absurd (cc e)

either_small : (b : Bool) (head : Head) (good : Header) → (good ≡ Good head →
    head.most ≤ greatest_number) → (if b then good else Bad) ≡ Good head → head.most ≤ greatest_number
either_small true head good h e = h e
either_small false head good h e = absurd (cc e)

pub header_small : (words : List (List ℕ)) (head : Head) → header_of words ≡ Good head →
    head.most ≤ greatest_number
header_small [] head e = absurd (cc e)
header_small (a ∷ []) head e = absurd (cc e)
header_small (a ∷ b ∷ []) head e = absurd (cc e)
header_small (a ∷ b ∷ c ∷ []) head e = absurd (cc e)
header_small (a ∷ b ∷ c ∷ d ∷ []) head e = absurd (cc e)
header_small (a ∷ b ∷ c ∷ d ∷ f ∷ []) head e = absurd (cc e)
header_small (tag ∷ most ∷ inputs ∷ latches ∷ outputs ∷ ands ∷ further) head e =
    either_small (bytes_eq tag (codes "aag") && (list_all is_count further && nat_le (length
    further) 4)) head _
    (λ same. with_small (head_of (count_of most) (count_of inputs) (count_of latches) (count_of
    outputs) (count_of ands)) (find is_above_zero further) head
    (λ one found. head_small (count_of most) (count_of inputs) (count_of latches) (count_of outputs)
    (count_of ands) one (count_small most) found) same) e
