-- Which numbers the constants of the code are.
use Rattle.std.proofs.Common.{◌≡◌, refl}
use Rattle.tcp_frames.specs.Split.{largest_rest}
use Rattle.tcp_frames.specs.declared.batch.TheConstants.{MOST_MESSAGES}
use Rattle.tcp_frames.specs.declared.front.TheConstants.{LARGEST_FRAME, LARGEST_REST}

pub frame_is : LARGEST_FRAME ≡ 4098
frame_is = refl

pub rest_is : LARGEST_REST ≡ largest_rest
rest_is = refl

pub messages_are : MOST_MESSAGES ≡ 8
messages_are = refl
