use Rattle.ppp_ncp.proofs.ipcp_table.IpcpTableOptionTable.judge.Goals as goal

pub returns-then-option-eq-ADDRESS : goal.returns-then-option-eq-ADDRESS
returns-then-option-eq-ADDRESS c = rw c.if-option-eq-ADDRESS.true (c.verdict.ensures c.args._own.now c.args._word)
