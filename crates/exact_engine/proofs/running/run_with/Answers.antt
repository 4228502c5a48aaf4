use Rattle.std.proofs.Common.{◌≡◌, Bool, List, length, sym, ◌∙◌, ap, subst, All}
use Rattle.std.proofs.lemmas.List.{length-map}
use Rattle.std.proofs.lemmas.Result.{IfOk-weaker}
use Rattle.net_core.specs.declared.raw.RawNet.{RawNet}
use Rattle.ste_model.specs.declared.run.Run.{Run}
use Rattle.ste_model.specs.declared.task.Assertion.{Assertion}
use Rattle.counter_run.specs.Runs.{IsRunOn}
use Rattle.exact_engine.specs.private.Running.{AreNetChoices, IsRunWith}
use Rattle.exact_engine.proofs.WithChoices.{made_with, rest_fits, undriven_long}
use Rattle.exact_engine.proofs.running.run_with.Goals as goal

pub input_rows-requires : goal.input_rows-requires
input_rows-requires c =
    rest_fits c.args.net.now.raw c.args.task.now c.args.bits.now c.beyond-later.result.now c.depth-times.result c.open_count.result c.first_count.result
    c.depth-times.ensures c.open_count.ensures c.first_count.ensures c.beyond-later.ensures c.requires.long

pub two_valued-requires-clause-tall : goal.two_valued-requires-clause-tall
two_valued-requires-clause-tall c =
    ap (λ (rows : List (List Bool)). length rows) c.as_slice-2.ensures.value ∙ c.in_ok-rows.ensures.tall ∙ c.open_count.ensures ∙ sym (undriven_long c.args.net.now.raw)

pub two_valued-requires-clause-wide : goal.two_valued-requires-clause-wide
two_valued-requires-clause-wide c =
    subst (λ (rows : List (List Bool)). All (λ (row : List Bool). length row ≡ c.depth-times.result) rows) (sym c.as_slice-2.ensures.value) c.in_ok-rows.ensures.wide

pub two_valued-requires-clause-first : goal.two_valued-requires-clause-first
two_valued-requires-clause-first c =
    ap (λ (bits : List Bool). length bits) (c.as_slice-3.ensures.value ∙ c.in_ok-starts.ensures) ∙ length-map c.args.net.now.raw.latches _

pub returns : goal.returns
returns c =
    let full = c.args.net.now in
    let net : RawNet = full.raw in
    let task : Assertion = c.args.task.now in
    let bits : List Bool = c.args.bits.now in
    let inputs : List (List Bool) = c.in_ok-rows.rows.items in
    let starts : List Bool = c.in_ok-starts.starts.items in
    let chosen : AreNetChoices net task.reset bits c.as_slice.result.now = subst (λ (xs : List Bool). AreNetChoices net task.reset bits xs) (sym c.as_slice.ensures.value) c.in_ok-firsts.ensures in
    IfOk-weaker c.two_valued.result (λ (told : Run). IsRunOn net c.depth-times.result c.as_slice-2.result.now c.as_slice-3.result.now told) (λ (told : Run). IsRunWith net task bits told)
    (λ told is.
    made_with net task full.one_driver bits c.as_slice.result.now starts c.beyond-later.result.now inputs told c.depth-times.result c.open_count.result c.first_count.result
    c.depth-times.ensures c.open_count.ensures c.first_count.ensures c.beyond-later.ensures c.requires.deep c.requires.long chosen c.in_ok-rows.ensures c.in_ok-starts.ensures
    (subst (λ (xs : List Bool). IsRunOn net c.depth-times.result inputs xs told) c.as_slice-3.ensures.value (subst (λ (rows : List (List Bool)). IsRunOn net c.depth-times.result rows c.as_slice-3.result.now told) c.as_slice-2.ensures.value is)))
    c.two_valued.ensures
