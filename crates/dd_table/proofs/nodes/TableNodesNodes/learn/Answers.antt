use Rattle.std.proofs.Common.{◌≡◌, nat_eq, sym, ◌∙◌, ap, subst}
use Rattle.std.proofs.lemmas.Bool.{eqb-true}
use Rattle.dd_recent.specs.Recent.{AreRight}
use Rattle.dd_recent.proofs.Remembering.{AreRight-entries}
use Rattle.dd_table.specs.Sessions.{SessionValue, gets_quota, store_of}
use Rattle.dd_table.proofs.Remembering.{AreRight-given, AreRight-united, other-keeps, united-keeps}
use Rattle.dd_table.proofs.nodes.TableNodesNodes.learn.Goals as goal

pub invariant_of-self-clause-right : goal.invariant_of-self-clause-right
invariant_of-self-clause-right c =
    let mine = c.args.self.now in
    let other = c.args.other.now in
    let part = c.split_off-session.result in
    let is : part ≡ gets_quota 0 other.session = c.split_off-session.ensures.new in
    AreRight-united mine.session part c.take_in.new.session mine.recent c.take.result c.take_over.new.self (nat_eq c.vars.result c.vars-2.result)
    c.take_in.ensures.both c.take_in.ensures.right mine.good c.split_off-session.ensures.good.1 c.take_in.ensures.good mine.right
    (subst (λ (k : SessionValue). AreRight (store_of k) c.take.result) (sym is) (AreRight-given other.session 0 c.take.result (AreRight-entries (store_of other.session) other.recent c.take.result c.take.ensures.all other.right)))
    (λ same. sym c.vars.ensures ∙ eqb-true c.vars.result c.vars-2.result same ∙ c.vars-2.ensures ∙ sym (ap (λ (k : SessionValue). k.vars) is)) c.take_over.ensures

pub returns-clause-keeps : goal.returns-clause-keeps
returns-clause-keeps c = united-keeps c.args.self.now.session c.split_off-session.result c.take_in.new.session c.take_in.ensures.both c.take_in.ensures.right

pub returns-clause-all : goal.returns-clause-all
returns-clause-all c = λ told.
    other-keeps c.args.self.now.session c.args.other.now.session c.split_off-session.result c.take_in.new.session 0 c.split_off-session.ensures.new c.take_in.ensures.both c.take_in.ensures.right c.requires
    (sym c.vars.ensures ∙ eqb-true c.vars.result c.vars-2.result told ∙ c.vars-2.ensures)
