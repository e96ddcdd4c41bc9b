use Rattle.paje_model.proofs.link_event.link_told.Goals as goal

pub returns : goal.returns
returns c n = cc (c.text_of.ensures n, c.in_ok-from_bytes.ensures)
