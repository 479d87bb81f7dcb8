use Rattle.ppp_cli.specs.Reply.{reply_seen, IsReplyToFeed}
use Rattle.ppp_conf.specs.Config.{config_seen}
use Rattle.ppp_script.specs.FeedEvent.{feed_form}
use Rattle.ppp_cli.proofs.ReplyLemmas.{if_ok_map, read_reply, declined_reply}
use Rattle.ppp_cli.proofs.reply.reply_to_feed.Goals as goal

pub returns-in-Ok-clause-reply : goal.returns-in-Ok-clause-reply
returns-in-Ok-clause-reply c =
    let parts = c.part_input-parts in
    let read = rw c.in-Ok.is at c.in_ok-config.ensures.read in
    if_ok_map c.reply_to_lines.result c.reply_to_lines.ensures.reply (λ reply is.
    read_reply feed_form IsReplyToFeed c.args.text.now parts.result.settings.now parts.result.script.now (config_seen c.in-Ok.config) (reply_seen reply) parts.ensures.settings parts.ensures.script read is)

pub returns-in-Err-clause-reply : goal.returns-in-Err-clause-reply
returns-in-Err-clause-reply c =
    let parts = c.part_input-parts in
    let declined = rw c.in-Err.is at c.in_ok-config.ensures.declined in
    declined_reply feed_form IsReplyToFeed c.args.text.now parts.result.settings.now parts.result.script.now (reply_seen c.in-Err.reply) parts.ensures.settings parts.ensures.script declined
