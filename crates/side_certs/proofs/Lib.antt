mod Cancelling
