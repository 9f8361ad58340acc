use Rattle.map_list.proofs.put_span.Goals as goal

pub returns : goal.returns
returns c = cc
