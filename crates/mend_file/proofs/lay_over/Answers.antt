use Rattle.mend_file.proofs.lay_over.Goals as goal

pub returns : goal.returns
returns c = cc
