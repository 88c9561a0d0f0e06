-- What is told is what the call is done with, or a refusal's place.
use Rattle.result_slice.proofs.Words.{told_in_array}
use Rattle.result_slice.proofs.reply.Goals as goal

pub returns-clause-told : goal.returns-clause-told
returns-clause-told g c =
    rw c.in-Ok.is (told_in_array c.args.res.now _ c.told-res c.words-2.ensures c.tell-2.ensures)

pub returns-in_default-clause-told : goal.returns-in_default-clause-told
returns-in_default-clause-told g c =
    rw (c.unwrap_err-refusal.ensures, ← c.place.ensures)
    (told_in_array c.args.res.now _ c.told-res c.words.ensures c.tell.ensures)
