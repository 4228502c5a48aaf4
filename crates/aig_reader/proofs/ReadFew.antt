-- 32 bits count what a text says.
use Rattle.std.proofs.Common.{◌≡◌, ℕ, ◌<◌, ◌≤◌, List, length, ap, arith, sym, subst}
use Rattle.aig_model.specs.declared.aig.Aig.{Aig}
use Rattle.aig_model.specs.declared.line.Entry.{Entry}
use Rattle.aig_model.specs.Answer.{text_entries, spelled_aig}
use Rattle.aig_model.specs.Spelled.{input_in, aig_latch_in, output_in}
use Rattle.aig_model.proofs.Sizes.{entries_fit, fewer}
use Rattle.aig_reader.specs.private.Labelled.{IsFew}

spelled_few : (bytes : List ℕ) → length bytes ≤ 67108864 → IsFew (spelled_aig bytes)
spelled_few bytes h =
    let fit = entries_fit bytes in
    let inputs = fewer (λ (e : Entry). input_in e.said) (text_entries bytes) in
    let latches = fewer (λ (e : Entry). aig_latch_in e.line e.said) (text_entries bytes) in
    let outputs = fewer (λ (e : Entry). output_in e.line e.said) (text_entries bytes) in
    record { inputs = omega arith; latches = omega arith; outputs = omega arith }

pub few_read : (bytes : List ℕ) (aig : Aig) → length bytes ≤ 67108864 → aig ≡ spelled_aig bytes →
    IsFew aig
few_read bytes aig h e = subst IsFew (sym e) (spelled_few bytes h)
