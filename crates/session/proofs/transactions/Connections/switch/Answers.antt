use Rattle.session.proofs.transactions.Connections.switch.Goals as goal

pub returns : goal.returns
returns g c = record {
  same = λ same. absurd (c.if-connection-self.false same);
  other = λ other. (c.trade.new.self, c.trade.ensures, c.trade-2.ensures);
}
