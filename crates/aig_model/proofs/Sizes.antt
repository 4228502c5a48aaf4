-- A text says no more things than it has bytes.
use Rattle.std.proofs.Common.{ℕ, suc, ◌+◌, ◌<◌, ◌≤◌, ◌≡◌, Bool, true, false, List, [], ◌∷◌, length, arith, Option, None, Some}
use Rattle.std.specs.Prelude.{if◌then◌else◌}
use Rattle.std.specs.List.{cons_option, filter_map}
use Rattle.blif_lines.specs.Lines.{is_line_feed, onto_first, pieces}
use Rattle.aig_model.specs.declared.line.Entry.{Entry}
use Rattle.aig_model.specs.declared.line.Head.{Head}
use Rattle.aig_model.specs.declared.line.Header.{Header}
use Rattle.aig_model.specs.declared.line.Header.TheVariants as header
use Rattle.aig_model.specs.declared.line.Said.{Said}
use Rattle.aig_model.specs.declared.line.Said.TheVariants as said
use Rattle.aig_model.specs.Answer.{text_entries, entries_with}
use Rattle.aig_model.specs.Faults.{first_words, aig_later_lines}
use Rattle.aig_model.specs.Lines.{header_of, said_at}
use Rattle.aig_model.specs.Spelled.{entries_from, entry_onto}

-- a part of a list is no longer
pub fewer : {X Y : Type 0} (f : X → Option Y) (xs : List X) → length (filter_map f xs) ≤ length xs
fewer f [] = omega arith
fewer f (x ∷ xs) = step (f x) (filter_map f xs) (length xs) (fewer f xs)
  where
    step : {Y : Type 0} (r : Option Y) (ys : List Y) (n : ℕ) → length ys ≤ n →
        length (cons_option r ys) ≤ suc n
    step None ys n h = omega arith
    step (Some y) ys n h = omega arith

piece_count : (c : Bool) (byte n : ℕ) (pieces : List (List ℕ)) → length pieces ≤ n →
    length (if c then [] ∷ pieces else onto_first byte pieces) ≤ suc n
piece_count true byte n pieces h = omega arith
piece_count false byte n [] h = omega arith
piece_count false byte n (piece ∷ pieces) h = omega arith

lines_few : (text : List ℕ) → length (pieces is_line_feed text) ≤ length text
lines_few [] = omega arith
lines_few (byte ∷ text) = piece_count (is_line_feed byte) byte (length text) (pieces is_line_feed
    text) (lines_few text)

entry_count : (n m : ℕ) (s : Said) (later : List Entry) → length later ≤ m →
    length (entry_onto n s later) ≤ suc m
entry_count n m (said.Input var) later h = omega arith
entry_count n m (said.Latch var next init) later h = omega arith
entry_count n m (said.Output literal) later h = omega arith
entry_count n m (said.And var left right) later h = omega arith
entry_count n m (said.Symbol kind symbol) later h = omega arith
entry_count n m said.End later h = omega arith
entry_count n m said.Wrong later h = omega arith

entries_few : (head : Head) (n : ℕ) (lines : List (List ℕ)) →
    length (entries_from head n lines) ≤ length lines
entries_few head n [] = omega arith
entries_few head n (line ∷ lines) = entry_count n (length lines) (said_at head n line) (entries_from
    head (suc n) lines) (entries_few head (suc n) lines)

with_few : (head : Header) (lines : List (List ℕ)) → length (entries_with head lines) ≤ length lines
with_few (header.Good head) lines = entries_few head 0 lines
with_few (header.LeftOut word) lines = omega arith
with_few header.Bad lines = omega arith

later_few : (lines : List (List ℕ)) → length (aig_later_lines lines) ≤ length lines
later_few [] = omega arith
later_few (line ∷ lines) = omega arith

-- no more lines say something than there are bytes
pub entries_fit : (text : List ℕ) → length (text_entries text) ≤ length text
entries_fit text =
    let lines = pieces is_line_feed text in
    let one = with_few (header_of (first_words lines)) (aig_later_lines lines) in
    let two = later_few lines in
    let three = lines_few text in
    omega arith
