use Rattle.giop_stream.proofs.replies.ReplySession.unfinished.Goals as goal

pub returns : goal.returns
returns c = λ fed given ms n stands ends.
    let stands' = rw (← c.self.view_is) at stands in
    c.unfinished.ensures fed given ms n stands' ends
