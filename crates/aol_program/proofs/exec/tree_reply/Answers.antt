use Rattle.aol_program.proofs.ExecTold.{ended_told, refused_told}
use Rattle.aol_program.proofs.exec.tree_reply.Goals as goal

pub returns-in-Ok : goal.returns-in-Ok
returns-in-Ok c = ended_told _ _ c.in-Ok.ensures

pub returns-in-Err : goal.returns-in-Err
returns-in-Err c = refused_told _ c.in-Err.refused c.refused_reply.result c.in-Err.ensures c.refused_reply.ensures
