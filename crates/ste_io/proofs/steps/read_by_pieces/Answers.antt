use Rattle.std.proofs.Common.{◌≡◌, ◌++◌, ◌∙◌, length, ap, arith, sym, subst, Err, Ok, true}
use Rattle.std.proofs.lemmas.Result.{err_from_is_err_and}
use Rattle.std.specs.Io.KnownBytes.{Consumes}
use Rattle.ste_io.specs.declared.files.FetchFault.TheVariants.{TooLarge}
use Rattle.ste_io.proofs.Limits.{all_of_them, as_many, consumes_more, consumes_none}
use Rattle.ste_io.proofs.steps.read_by_pieces.Goals as goal

pub loop-init : goal.loop-init
loop-init g c =
    let none = c.new-bytes.ensures.items in
    record {
      few = let long = ap length none in omega (arith, long);
      taken = subst (Consumes (g.R.Read.remaining c.args.reader.now) (g.R.Read.remaining c.args.reader.now)) (sym none) (consumes_none (g.R.Read.remaining c.args.reader.now));
    }

pub returns-then-seen-max-clause-too_large : goal.returns-then-seen-max-clause-too_large
returns-then-seen-max-clause-too_large g c = λ seen is.
    let same : c.len-seen.result ≡ seen = cc is in
    let more = c.if-seen-max.true in
    let long = c.len-seen.ensures ∙ c.loop.bytes.ok.0 in
    (omega (arith, same, more), as_many (g.R.Read.remaining c.args.reader.now) (g.R.Read.remaining c.loop.reader) c.loop.bytes.items c.args.max c.loop.invariant.taken (omega (arith, more, long)))

pub returns-then-seen-max-clause-asked : goal.returns-then-seen-max-clause-asked
returns-then-seen-max-clause-asked g c = (c.loop.bytes.items, c.loop.invariant.few, c.loop.invariant.taken)

pub returns-in_err-read_once-clause-too_large : goal.returns-in_err-read_once-clause-too_large
returns-in_err-read_once-clause-too_large g c = λ seen is.
    let p = err_from_is_err_and c.from_residual.result c.from_residual.ensures.1 in
    let both : Err p.0 ≡ Err (TooLarge seen) = sym p.1 ∙ is in
    let large : p.0 ≡ TooLarge seen = cc both in
    absurd (c.read_once.ensures.not_large seen (c.in_err-read_once.was ∙ ap Err (sym p.2 ∙ large)))

pub returns-in_err-read_once-clause-asked : goal.returns-in_err-read_once-clause-asked
returns-in_err-read_once-clause-asked g c =
    let read = c.read_once.ensures.read in (
      c.loop.bytes.items ++ read.taken,
      read.few,
      consumes_more (g.R.Read.remaining c.args.reader.now) (g.R.Read.remaining c.loop.reader) (g.R.Read.remaining c.read_once.new.reader) c.loop.bytes.items read.taken c.loop.invariant.taken read.takes,
    )

pub returns-then-branch-clause-whole : goal.returns-then-branch-clause-whole
returns-then-branch-clause-whole g c =
    let read = c.read_once.ensures.read in
    let is = c.in_ok-read_once.was ∙ ap Ok c.if-branch.true in
    let taken = consumes_more (g.R.Read.remaining c.args.reader.now) (g.R.Read.remaining c.loop.reader) (g.R.Read.remaining c.read_once.new.reader) c.loop.bytes.items read.taken c.loop.invariant.taken read.takes in
    all_of_them (g.R.Read.remaining c.args.reader.now) (g.R.Read.remaining c.read_once.new.reader) c.read_once.new.bytes.items
    (subst (Consumes (g.R.Read.remaining c.args.reader.now) (g.R.Read.remaining c.read_once.new.reader)) (sym (read.put true is)) taken) (read.end is).0

pub returns-then-branch-clause-size : goal.returns-then-branch-clause-size
returns-then-branch-clause-size g c =
    let read = c.read_once.ensures.read in
    let is = c.in_ok-read_once.was ∙ ap Ok c.if-branch.true in
    let same = ap length (read.end is).1 in
    let few = c.if-seen-max.false in
    let long = c.len-seen.ensures ∙ c.loop.bytes.ok.0 in omega (arith, same, few, long)

pub returns-then-branch-clause-asked : goal.returns-then-branch-clause-asked
returns-then-branch-clause-asked g c =
    let read = c.read_once.ensures.read in (
      c.loop.bytes.items ++ read.taken,
      read.few,
      consumes_more (g.R.Read.remaining c.args.reader.now) (g.R.Read.remaining c.loop.reader) (g.R.Read.remaining c.read_once.new.reader) c.loop.bytes.items read.taken c.loop.invariant.taken read.takes,
    )

pub loop-preserved : goal.loop-preserved
loop-preserved g c =
    let read = c.read_once.ensures.read in
    let put = read.put c.in_ok-read_once.field-0 c.in_ok-read_once.was in
    record {
      few = let few = read.few in let same = ap length put in omega (arith, few, same);
      taken = subst (Consumes (g.R.Read.remaining c.args.reader.now) (g.R.Read.remaining c.read_once.new.reader)) (sym put)
          (consumes_more (g.R.Read.remaining c.args.reader.now) (g.R.Read.remaining c.loop.reader) (g.R.Read.remaining c.read_once.new.reader) c.loop.bytes.items read.taken c.loop.invariant.taken read.takes);
    }

pub returns-clause-asked : goal.returns-clause-asked
returns-clause-asked g c = (c.loop.bytes.items, c.loop.invariant.few, c.loop.invariant.taken)
