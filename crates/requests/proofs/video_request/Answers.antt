use Rattle.requests.specs.Request.{video_request}
use Rattle.requests.proofs.video_request.Goals as goal

pub returns : goal.returns
unfolding video_request
returns c = rw (c.bytes_of-values.ensures, c.set_code.ensures, c.byte_count.ensures.count)
