mod CopyLemmas
mod RestLemmas
