-- Three stores of four bytes, one after the other, are one record.
use Rattle.ledger.proofs.Ways.{stored}
use Rattle.ledger.proofs.put_record.Goals as goal

pub returns : goal.returns
returns c =
    stored _ _ _ _ _ _ c.requires c.write_at.ensures c.put.ensures
    c.write_at-2.ensures
