use Rattle.zs_c.proofs.Running.{opened-code, state-words, weight-within}
use Rattle.zs_c.proofs.program.exports.zs_output.Goals as goal

pub returns-in-Ok-clause-told : goal.returns-in-Ok-clause-told
returns-in-Ok-clause-told c small t program free h planned kept =
    let opens = c.in-Ok.ensures.ok t program in
    let o = c.in-Ok.opened in
    let held = state-words o t h planned c.args.state.now opens kept in
    let code = opened-code o t opens in
    let light = weight-within t opens.within in
    record {
      text = c.put_text.ensures.text t h code light free held;
      size = c.put_text.ensures.size t h code light free held;
    }
